-- What a rule makes is equivalent.
use Rattle.std.proofs.Common.{◌≡◌, IfOk, Result, Ok, Err}
use Rattle.castor_val.specs.Gives.{Gives}
use Rattle.castor_alg.specs.declared.context.Context.{Context}
use Rattle.castor_alg.specs.declared.rel.Rel.{Rel}
use Rattle.castor_alg.specs.declared.rule_error.RuleError.{RuleError}
use Rattle.castor_alg.specs.declared.rule_error.RuleError.TheVariants.{Memory}
use Rattle.castor_alg.specs.declared.step.Arg.{Arg}
use Rattle.castor_alg.specs.declared.step.Arg.TheVariants.{Nothing, Pred}
use Rattle.castor_alg.specs.declared.step.FlatRule.{FlatRule}
use Rattle.castor_alg.specs.declared.step.FlatRule.TheVariants as rule
use Rattle.castor_alg.specs.Equivalence.{Equivalent}
use Rattle.castor_alg.specs.Typing.{Typed}
use Rattle.castor_flat.specs.Rules.{flat_row, plain_row}
use Rattle.castor_flat.proofs.DedupTwiceLaws.{dedup_twice_keeps}
use Rattle.castor_flat.proofs.FilterConcatLaws.{filter_concat_keeps}
use Rattle.castor_flat.proofs.FilterDedupLaws.{filter_dedup_keeps}
use Rattle.castor_flat.proofs.FilterGroupLaws.{filter_group_keeps}
use Rattle.castor_flat.proofs.FilterIntoJoinLaws.{filter_into_join_keeps}
use Rattle.castor_flat.proofs.FilterJoinLeftLaws.{filter_join_left_keeps}
use Rattle.castor_flat.proofs.FilterJoinRightLaws.{filter_join_right_keeps}
use Rattle.castor_flat.proofs.FilterMergeLaws.{filter_merge_keeps}
use Rattle.castor_flat.proofs.FilterOutOfJoinLaws.{filter_out_of_join_keeps}
use Rattle.castor_flat.proofs.FilterSplitLaws.{filter_split_keeps}
use Rattle.castor_flat.proofs.FilterSwapLaws.{filter_swap_keeps}
use Rattle.castor_flat.proofs.FilterUnderSelectLaws.{filter_under_select_keeps}
use Rattle.castor_flat.proofs.JoinCommuteLaws.{join_commute_keeps}
use Rattle.castor_flat.proofs.OrderDropLaws.{order_drop_keeps}
use Rattle.castor_flat.proofs.OrderUnderFilterLaws.{order_under_filter_keeps}
use Rattle.castor_flat.proofs.SelectConcatLaws.{select_concat_keeps}
use Rattle.castor_flat.proofs.SelectMergeLaws.{select_merge_keeps}
use Rattle.castor_flat.proofs.SplitLaws.{split_keeps}

plain_keeps : (r : FlatRule) (context : Context) (q made : Rel) → plain_row r context q ≡ Ok made → Typed q context → Equivalent context q made
plain_keeps rule.FilterSplit context q made is typed = filter_split_keeps context q made is typed
plain_keeps rule.FilterMerge context q made is typed = filter_merge_keeps context q made is typed
plain_keeps rule.FilterSwap context q made is typed = filter_swap_keeps context q made is typed
plain_keeps rule.FilterUnderSelect context q made is typed = filter_under_select_keeps context q made is typed
plain_keeps rule.SelectMerge context q made is typed = select_merge_keeps context q made is typed
plain_keeps rule.FilterIntoJoin context q made is typed = filter_into_join_keeps context q made is typed
plain_keeps rule.FilterOutOfJoin context q made is typed = filter_out_of_join_keeps context q made is typed
plain_keeps rule.FilterJoinLeft context q made is typed = filter_join_left_keeps context q made is typed
plain_keeps rule.FilterJoinRight context q made is typed = filter_join_right_keeps context q made is typed
plain_keeps rule.JoinCommute context q made is typed = join_commute_keeps context q made is typed
plain_keeps rule.FilterConcat context q made is typed = filter_concat_keeps context q made is typed
plain_keeps rule.SelectConcat context q made is typed = select_concat_keeps context q made is typed
plain_keeps rule.DedupTwice context q made is typed = dedup_twice_keeps context q made is typed
plain_keeps rule.FilterDedup context q made is typed = filter_dedup_keeps context q made is typed
plain_keeps rule.OrderDrop context q made is typed = order_drop_keeps context q made is typed
plain_keeps rule.OrderUnderFilter context q made is typed = order_under_filter_keeps context q made is typed
plain_keeps rule.FilterGroup context q made is typed = filter_group_keeps context q made is typed
plain_keeps rule.Split context q made is typed = cc

pub rule_keeps : (r : FlatRule) (arg : Arg) (context : Context) (q made : Rel) → flat_row r arg context q ≡ Ok made → Typed q context → Equivalent context q made
rule_keeps r Nothing context q made is typed = plain_keeps r context q made is typed
rule_keeps rule.Split (Pred p) context q made is typed = split_keeps context p q made is typed
rule_keeps other (Pred p) context q made is typed = cc

pub made_keeps : (r : FlatRule) (arg : Arg) (context : Context) (q : Rel) (result : Result Rel RuleError) → Typed q context → Gives (λ made. made) Memory (flat_row r arg context q) result → IfOk result (λ made. Equivalent context q made)
made_keeps r arg context q (Ok made) typed is = rule_keeps r arg context q made is typed
made_keeps r arg context q (Err why) typed is = tt
