-- Places in a relation: paths of operands, from the root downwards.
use Rattle.std.specs.Prelude.{ℕ, zero, suc, List, [], ◌∷◌, if◌then◌else◌, Option, Some, None, is_some, option_and_then, option_map, slice_get, Result, Ok, Err}
use Rattle.castor_alg.specs.declared.context.Context.{Context}
use Rattle.castor_alg.specs.declared.rel.Rel.{Rel, out-Rel}
use Rattle.castor_alg.specs.declared.rel.Rel as R
use Rattle.castor_alg.specs.declared.rel.Rel.TheOpen.{Rel-F}
use Rattle.castor_alg.specs.declared.rel.Rel.TheOpen as is
use Rattle.castor_alg.specs.declared.replacement.ReplaceError.{ReplaceError}
use Rattle.castor_alg.specs.declared.replacement.ReplaceError.TheVariants.{NoSuchPlace}
use Rattle.castor_alg.specs.Typing.{extended, types_under}

-- the operand of this number, where there is one operand
abbrev pub of_one : ℕ → Rel → Option Rel
of_one zero r = Some r
of_one (suc i) r = None

-- the operand of this number, where there are two
abbrev pub of_two : ℕ → Rel → Rel → Option Rel
of_two zero r s = Some r
of_two (suc zero) r s = Some s
of_two (suc (suc i)) r s = None

-- the operand of this number, and none where there is no such operand
abbrev pub operand : ℕ → Rel-F Rel → Option Rel
operand i (is.Table n) = None
operand i (is.Scalar e) = None
operand i (is.Cross rs) = slice_get rs i
operand i (is.Concat rs) = slice_get rs i
operand i (is.Select es r) = of_one i r
operand i (is.Filter e r) = of_one i r
operand i (is.Join e r s) = of_two i r s
operand i (is.DepJoin k r s) = of_two i r s
operand i (is.Group ks aggs r) = of_one i r
operand i (is.Order ks r) = of_one i r
operand i (is.Dedup r) = of_one i r
operand i (is.List k r s) = of_two i r s
operand i (is.Hash k r s es) = of_two i r s
operand i (is.Ord k r s lo hi) = of_two i r s

-- the relation at the path, and none where the path leads nowhere
abbrev pub at_path : List ℕ → Rel → Option Rel
at_path [] q = Some q
at_path (i ∷ path) q = option_and_then (at_path path) (operand i (out-Rel q))

-- the context of an operand of a binder: the body's scope has the column types of the source
abbrev pub binder_context : ℕ → Context → ℕ → Rel → Option Context
binder_context zero context k r = Some context
binder_context (suc i) context k r = option_map (extended context k) (types_under r context)

-- the context of the operand of this number, and none where the source of its binder has no types
abbrev pub operand_context : ℕ → Context → Rel-F Rel → Option Context
operand_context i context (is.Table n) = Some context
operand_context i context (is.Scalar e) = Some context
operand_context i context (is.Cross rs) = Some context
operand_context i context (is.Concat rs) = Some context
operand_context i context (is.Select es r) = Some context
operand_context i context (is.Filter e r) = Some context
operand_context i context (is.Join e r s) = Some context
operand_context i context (is.DepJoin k r s) = binder_context i context k r
operand_context i context (is.Group ks aggs r) = Some context
operand_context i context (is.Order ks r) = Some context
operand_context i context (is.Dedup r) = Some context
operand_context i context (is.List k r s) = binder_context i context k r
operand_context i context (is.Hash k r s es) = binder_context i context k r
operand_context i context (is.Ord k r s lo hi) = binder_context i context k r

-- the context of the relation at the path, where the path leads somewhere and each source on the way has types
abbrev pub context_at : List ℕ → Rel → Context → Option Context
context_at [] q context = Some context
context_at (i ∷ path) q context = option_and_then (λ r. option_and_then (context_at path r) (operand_context i context (out-Rel q))) (operand i (out-Rel q))

-- the first operand, rewritten where its number is meant
abbrev pub on_first : ℕ → (Rel → Rel) → Rel → Rel
on_first zero f r = f r
on_first (suc i) f r = r

-- the second operand, rewritten where its number is meant
abbrev pub on_second : ℕ → (Rel → Rel) → Rel → Rel
on_second zero f s = s
on_second (suc zero) f s = f s
on_second (suc (suc i)) f s = s

-- the operands, of which the one of this number is rewritten
abbrev pub on_each : ℕ → (Rel → Rel) → List Rel → List Rel
on_each i f [] = []
on_each zero f (r ∷ rs) = f r ∷ rs
on_each (suc i) f (r ∷ rs) = r ∷ on_each i f rs

-- the operator over its operands, of which the one of this number is rewritten
abbrev pub on_operand : ℕ → (Rel → Rel) → Rel-F Rel → Rel
on_operand i f (is.Table n) = R.Table n
on_operand i f (is.Scalar e) = R.Scalar e
on_operand i f (is.Cross rs) = R.Cross (on_each i f rs)
on_operand i f (is.Concat rs) = R.Concat (on_each i f rs)
on_operand i f (is.Select es r) = R.Select es (on_first i f r)
on_operand i f (is.Filter e r) = R.Filter e (on_first i f r)
on_operand i f (is.Join e r s) = R.Join e (on_first i f r) (on_second i f s)
on_operand i f (is.DepJoin k r s) = R.DepJoin k (on_first i f r) (on_second i f s)
on_operand i f (is.Group ks aggs r) = R.Group ks aggs (on_first i f r)
on_operand i f (is.Order ks r) = R.Order ks (on_first i f r)
on_operand i f (is.Dedup r) = R.Dedup (on_first i f r)
on_operand i f (is.List k r s) = R.List k (on_first i f r) (on_second i f s)
on_operand i f (is.Hash k r s es) = R.Hash k (on_first i f r) (on_second i f s) es
on_operand i f (is.Ord k r s lo hi) = R.Ord k (on_first i f r) (on_second i f s) lo hi

-- the relation with what is at the path replaced, and unchanged where the path leads nowhere
abbrev pub replaced : List ℕ → Rel → Rel → Rel
replaced [] new q = new
replaced (i ∷ path) new q = on_operand i (replaced path new) (out-Rel q)

-- the relation with what is at the path replaced, or that the path leads nowhere
abbrev pub replacement : List ℕ → Rel → Rel → Result Rel ReplaceError
replacement path new q = if is_some (at_path path q) then Ok (replaced path new q) else Err NoSuchPlace
