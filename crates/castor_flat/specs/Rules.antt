-- The rules by name: what each makes of a relation, or why it is refused.
use Rattle.std.specs.Prelude.{Err}
use Rattle.castor_alg.specs.declared.context.Context.{Context}
use Rattle.castor_alg.specs.declared.rel.Rel.{Rel}
use Rattle.castor_alg.specs.declared.rule_error.RuleError.TheVariants.{BadArgument}
use Rattle.castor_alg.specs.declared.step.Arg.{Arg}
use Rattle.castor_alg.specs.declared.step.Arg.TheVariants.{Nothing, Pred}
use Rattle.castor_alg.specs.declared.step.FlatRule.{FlatRule}
use Rattle.castor_alg.specs.declared.step.FlatRule.TheVariants as rule
use Rattle.castor_flat.specs.DedupTwice.{dedup_twice}
use Rattle.castor_flat.specs.FilterConcat.{filter_concat}
use Rattle.castor_flat.specs.FilterDedup.{filter_dedup}
use Rattle.castor_flat.specs.FilterGroup.{filter_group}
use Rattle.castor_flat.specs.FilterIntoJoin.{filter_into_join}
use Rattle.castor_flat.specs.FilterJoinLeft.{filter_join_left}
use Rattle.castor_flat.specs.FilterJoinRight.{filter_join_right}
use Rattle.castor_flat.specs.FilterMerge.{filter_merge}
use Rattle.castor_flat.specs.FilterOutOfJoin.{filter_out_of_join}
use Rattle.castor_flat.specs.FilterSplit.{filter_split}
use Rattle.castor_flat.specs.FilterSwap.{filter_swap}
use Rattle.castor_flat.specs.FilterUnderSelect.{filter_under_select}
use Rattle.castor_flat.specs.Forms.{Rewriting}
use Rattle.castor_flat.specs.JoinCommute.{join_commute}
use Rattle.castor_flat.specs.OrderDrop.{order_drop}
use Rattle.castor_flat.specs.OrderUnderFilter.{order_under_filter}
use Rattle.castor_flat.specs.SelectConcat.{select_concat}
use Rattle.castor_flat.specs.SelectMerge.{select_merge}
use Rattle.castor_flat.specs.Split.{split}

-- a rule without an argument
abbrev pub plain_row : FlatRule → Context → Rel → Rewriting
plain_row rule.FilterSplit types q = filter_split q
plain_row rule.FilterMerge types q = filter_merge q
plain_row rule.FilterSwap types q = filter_swap q
plain_row rule.FilterUnderSelect types q = filter_under_select q
plain_row rule.SelectMerge types q = select_merge q
plain_row rule.FilterIntoJoin types q = filter_into_join q
plain_row rule.FilterOutOfJoin types q = filter_out_of_join q
plain_row rule.FilterJoinLeft types q = filter_join_left types.tables q
plain_row rule.FilterJoinRight types q = filter_join_right types.tables q
plain_row rule.JoinCommute types q = join_commute types.tables q
plain_row rule.FilterConcat types q = filter_concat q
plain_row rule.SelectConcat types q = select_concat q
plain_row rule.DedupTwice types q = dedup_twice q
plain_row rule.FilterDedup types q = filter_dedup q
plain_row rule.OrderDrop types q = order_drop q
plain_row rule.OrderUnderFilter types q = order_under_filter q
plain_row rule.FilterGroup types q = filter_group q
plain_row rule.Split types q = Err BadArgument

-- the row of each rule: `split` alone takes an argument
abbrev pub flat_row : FlatRule → Arg → Context → Rel → Rewriting
flat_row rule Nothing types q = plain_row rule types q
flat_row rule.Split (Pred p) types q = split types p q
flat_row other (Pred p) types q = Err BadArgument
