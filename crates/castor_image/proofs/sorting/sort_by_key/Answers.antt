use Rattle.std.proofs.Common.{rules, ap}
use Rattle.std.specs.Ordering.{is_lt}
use Rattle.std.proofs.lemmas.Fn.{always_returns_same}
use Rattle.castor_code.specs.Directories.{key_lt}
use Rattle.castor_laws.proofs.SortingLaws.{sorted_is}
use Rattle.castor_image.proofs.AdjacentLaws.{keys_order}
use Rattle.castor_image.proofs.sorting.sort_by_key.Goals as goal

pub returns : goal.returns
returns c =
    sorted_is key_lt keys_order _ _
    (c.in_ok-sort_by.ensures.sorted _ keys_order (always_returns_same _ _ _ (λ a r q k. (ap is_lt (search rules), search rules))))
    (c.sort_by.ensures.stable _ keys_order (always_returns_same _ _ _ (λ a r q k. (ap is_lt (search rules), search rules))))
