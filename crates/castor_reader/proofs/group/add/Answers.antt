use Rattle.std.proofs.Common.{◌∙◌, ap, map, not}
use Rattle.castor_val.specs.Values.{value_of}
use Rattle.castor_eval.proofs.GroupedRows.{grouped-more}
use Rattle.castor_eval.proofs.ViewLaws.{holds-key, insert-key, position-key}
use Rattle.castor_reader.proofs.group.add.Goals as goal

pub returns-clause-grouped : goal.returns-clause-grouped
returns-clause-grouped c = λ rows g.
    let key = c.in_ok-key.key in
    let keys = c.args.groups.now.keys.keys in
    let is = c.in_ok-key.ensures in
    grouped-more c.args.ks.now _ _ _ _ _ rows (map value_of c.args.row.now) c.in-Ok.at c.in-Ok.is_new g
    (insert-key key keys _ _ is c.in-Ok.ensures.keys) (c.in-Ok.ensures.added ∙ ap not (holds-key key keys _ is)) (c.in-Ok.ensures.index ∙ position-key key keys _ is)
    c.in_ok-open_group.ensures.rows c.in_ok-push_at.ensures.rows
