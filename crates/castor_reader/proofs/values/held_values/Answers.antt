use Rattle.std.proofs.Common.{◌∙◌, [], ◌∷◌, ◌++◌, map, refl, sym, ap}
use Rattle.std.proofs.lemmas.List.{map-append}
use Rattle.castor_val.specs.Values.{value_of}
use Rattle.castor_reader.specs.Answers.{values_in}
use Rattle.castor_reader.specs.HeldValues.{of_value}
use Rattle.castor_reader.proofs.ValueLaws.{are_more, are_whole, one_is_none, values_more, values_whole}
use Rattle.castor_reader.proofs.values.held_values.Goals as goal

pub loop-at-init : goal.loop-at-init
loop-at-init c = record { are = refl; meant = λ env p. sym (ap (λ cells. map of_value (map value_of cells)) c.in_ok-row.ensures.items) }

pub loop-at-preserved : goal.loop-at-preserved
loop-at-preserved c =
    let ks = c.args.kids.now in
    let hs = c.args.parts.now in
    let row = values_in c.loop-at.row in
    let pushed = ap (map value_of) c.in_ok-push-in-Some.ensures.items ∙ map-append value_of c.loop-at.row.items _ ∙ ap (λ v. row ++ v ∷ []) c.cell.ensures in
    record {
      are = are_more ks hs c.loop-at.at c.index-kids-at.result c.index-parts-at.result c.loop-at-test.true c.requires c.index-kids-at.is c.index-parts-at.is c.loop-at.invariant.are (sym c.in-Some.ensures.is);
      meant = values_more ks hs c.loop-at.at c.index-kids-at.result c.index-parts-at.result row _ c.in-Some.value.now c.loop-at-test.true c.requires c.index-kids-at.is c.index-parts-at.is c.loop-at.invariant.meant c.in-Some.ensures.meant pushed;
    }

pub returns-clause-are : goal.returns-clause-are
returns-clause-are c = sym (are_whole c.args.kids.now c.args.parts.now c.loop-at.at c.loop-at-test.false c.requires c.loop-at.invariant.are)

pub returns-clause-meant : goal.returns-clause-meant
returns-clause-meant c = values_whole c.args.kids.now c.args.parts.now c.loop-at.at (values_in c.loop-at.row) c.loop-at-test.false c.requires c.loop-at.invariant.meant

pub returns-in-None-clause-are : goal.returns-in-None-clause-are
returns-in-None-clause-are c = sym (one_is_none c.args.kids.now c.args.parts.now c.loop-at.at c.index-kids-at.result c.index-parts-at.result c.loop-at-test.true c.requires c.index-kids-at.is c.index-parts-at.is (sym c.in-None.ensures.is))
