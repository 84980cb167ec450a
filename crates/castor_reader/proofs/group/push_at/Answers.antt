use Rattle.std.proofs.Common.{◌≡◌, ◌∙◌, ◌++◌, ◌∷◌, [], sym, ap, arith, map, get_or, set}
use Rattle.std.proofs.lemmas.List.{get_or-map, map-set, map-append}
use Rattle.castor_reader.specs.Answers.{row_behind}
use Rattle.castor_reader.specs.Grouping.{rows_behind}
use Rattle.castor_reader.proofs.group.push_at.Goals as goal

pub returns-clause-rows : goal.returns-clause-rows
returns-clause-rows c =
    let xs = c.args.members.now.items in
    let old : get_or (map rows_behind xs) c.args.at [] ≡ rows_behind c.index_mut.result.now =
    get_or-map rows_behind xs c.args.at c.index_mut.result.now [] (omega (arith, c.requires, c.args.members.now.ok.0)) ∙ ap rows_behind (sym c.index_mut.ensures.value) in
    let new : rows_behind c.push.new.self ≡ rows_behind c.index_mut.result.now ++ row_behind c.args.row ∷ [] = ap (map row_behind) c.in_ok-push.ensures.items ∙ map-append row_behind c.index_mut.result.now.items (c.args.row ∷ []) in
    map-set rows_behind xs c.args.at c.push.new.self ∙ ap (λ w. set (map rows_behind xs) c.args.at w) (new ∙ ap (λ w. w ++ row_behind c.args.row ∷ []) (sym old))
