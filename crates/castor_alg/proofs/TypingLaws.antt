-- The types of scopes and of lists of parts.
use Rattle.std.proofs.Common.{◌≡◌, ◌∙◌, ℕ, zero, suc, map, arith, ◌+◌, ◌<◌, ◌==◌, refl, sym, ap, List, [], ◌∷◌, ◌++◌, length, take, get_or, Bool, true, Option, Some, None, if◌then◌else◌, nat_le, slice_get, option_and_then, ◌&&◌}
use Rattle.std.proofs.lemmas.Bool.{eq-eqb, ne_eqb}
use Rattle.std.proofs.lemmas.List.{take_more}
use Rattle.std.proofs.lemmas.List.Sums.{fold-append}
use Rattle.std.specs.Str.{is_utf8}
use Rattle.castor_val.specs.declared.value.Ty.{Ty}
use Rattle.castor_val.specs.declared.value.Ty.TheVariants as ty
use Rattle.castor_val.specs.declared.value.Value.{Value}
use Rattle.castor_val.specs.declared.value.Value.TheVariants.{Text}
use Rattle.castor_alg.specs.declared.context.Context.{Context}
use Rattle.castor_alg.specs.Typing.{allowed, each, extended, literal_type, scope_types, with_both}

-- the last entry holds where it is for the scope
pub scope_types-append : (entries : List (ℕ × List Ty)) (entry : ℕ × List Ty) (k : ℕ) → scope_types (entries ++ entry ∷ []) k ≡ (if entry.0 == k then Some entry.1 else scope_types entries k)
scope_types-append entries entry k = fold-append (λ (found : Option (List Ty)) (e : ℕ × List Ty). if e.0 == k then Some e.1 else found) None entries (entry ∷ [])

-- in the body of a binder its scope has the types of its source
pub scope_types-extended : (context : Context) (j : ℕ) (types : List Ty) (k : ℕ) → scope_types (extended context j types).scopes k ≡ (if j == k then Some types else scope_types context.scopes k)
scope_types-extended context j types k = scope_types-append context.scopes (j, types) k

scope_types-more : (entries : List (ℕ × List Ty)) (i k : ℕ) (entry : ℕ × List Ty) → i < length entries → entry ≡ get_or entries i entry → scope_types (take (i + 1) entries) k ≡ (if entry.0 == k then Some entry.1 else scope_types (take i entries) k)
scope_types-more entries i k entry within is =
    ap (λ (es : List (ℕ × List Ty)). scope_types es k) (take_more entries i entry within ∙ ap (λ (e : ℕ × List Ty). take i entries ++ e ∷ []) (sym is))
    ∙ scope_types-append (take i entries) entry k

abbrev column_in : ℕ → Option (List Ty) → Option Ty
column_in at types = option_and_then (λ types. slice_get types at) types

-- what a search through the entries has found at one for the scope
pub entry_holds : (entries : List (ℕ × List Ty)) (i k at : ℕ) (entry : ℕ × List Ty) (found : Option Ty) → i < length entries → entry ≡ get_or entries i entry → entry.0 ≡ k → found ≡ slice_get entry.1 at → found ≡ option_and_then (λ types. slice_get types at) (scope_types (take (i + 1) entries) k)
entry_holds entries i k at entry found within is here at_entry =
    at_entry ∙ sym (ap (column_in at) (scope_types-more entries i k entry within is ∙ ap (λ (b : Bool). if b then Some entry.1 else scope_types (take i entries) k) (eq-eqb entry.0 k here)))

-- and at one for another scope
pub entry_passes : (entries : List (ℕ × List Ty)) (i k at : ℕ) (entry : ℕ × List Ty) (found : Option Ty) → i < length entries → entry ≡ get_or entries i entry → (entry.0 ≡ k → ⊥) → found ≡ option_and_then (λ types. slice_get types at) (scope_types (take i entries) k) → found ≡ option_and_then (λ types. slice_get types at) (scope_types (take (i + 1) entries) k)
entry_passes entries i k at entry found within is other before =
    before ∙ sym (ap (column_in at) (scope_types-more entries i k entry within is ∙ ap (λ (b : Bool). if b then Some entry.1 else scope_types (take i entries) k) (ne_eqb entry.0 k other)))

-- in a column of the scope that is bound last
pub column-bound : (context : Context) (j : ℕ) (types : List Ty) (k at : ℕ) (found : Option Ty) → j ≡ k → found ≡ slice_get types at → found ≡ option_and_then (λ types. slice_get types at) (scope_types (extended context j types).scopes k)
column-bound context j types k at found here is =
    is ∙ sym (ap (column_in at) (scope_types-extended context j types k ∙ ap (λ (b : Bool). if b then Some types else scope_types context.scopes k) (eq-eqb j k here)))

-- a text literal is typed where it isn't too long
pub literal_type-text : (v : Value) (text bytes : List ℕ) (found : Option Ty) → v ≡ Text text → bytes ≡ text → is_utf8 bytes ≡ true → found ≡ allowed (nat_le (length bytes) 65535) ty.Text → found ≡ literal_type v
literal_type-text v text bytes found is same utf8 at_length =
    at_length
    ∙ ap (λ (b : List ℕ). allowed (nat_le (length b) 65535) ty.Text) same
    ∙ sym (ap literal_type is ∙ ap (λ (b : Bool). allowed (b && nat_le (length text) 65535) ty.Text) (ap is_utf8 (sym same) ∙ utf8))

module _ {X Y : Type 0} (f : X → Option Y) where
  abbrev put_last : Option (List Y) → Option Y → Option (List Y)
  put_last ys y = with_both (λ ys y. ys ++ y ∷ []) ys y

  first_then : (a : Option Y) (ys : Option (List Y)) (y : Option Y) → with_both (λ z zs. z ∷ zs) a (put_last ys y) ≡ put_last (with_both (λ z zs. z ∷ zs) a ys) y
  first_then None ys y = refl
  first_then (Some a) None y = refl
  first_then (Some a) (Some ys) None = refl
  first_then (Some a) (Some ys) (Some y) = refl

  alone : (y : Option Y) → with_both (λ z zs. z ∷ zs) y (Some []) ≡ put_last (Some []) y
  alone None = refl
  alone (Some y) = refl

  each-append : (xs : List X) (x : X) → each (map f (xs ++ x ∷ [])) ≡ put_last (each (map f xs)) (f x)
  each-append [] x = alone (f x)
  each-append (z ∷ xs) x = ap (with_both (λ z zs. z ∷ zs) (f z)) (each-append xs x) ∙ first_then (f z) (each (map f xs)) (f x)

  -- one part more
  pub each-more : (xs : List X) (i : ℕ) (d x : X) (ys : List Y) (y : Y) → i < length xs → x ≡ get_or xs i d → each (map f (take i xs)) ≡ Some ys → f x ≡ Some y → each (map f (take (i + 1) xs)) ≡ Some (ys ++ y ∷ [])
  each-more xs i d x ys y within is before here =
      ap (λ (zs : List X). each (map f zs)) (take_more xs i d within ∙ ap (λ (z : X). take i xs ++ z ∷ []) (sym is))
      ∙ each-append (take i xs) x
      ∙ (λ j. put_last (before j) (here j))

  -- a part that isn't there
  pub each-none : (xs : List X) (i : ℕ) (d x : X) → i < length xs → x ≡ get_or xs i d → f x ≡ None → each (map f xs) ≡ None
  each-none [] i d x within is none = absurd (omega arith)
  each-none (z ∷ xs) zero d x within is none = ap (λ (w : X). with_both (λ z zs. z ∷ zs) (f w) (each (map f xs))) (sym is) ∙ ap (λ (o : Option Y). with_both (λ z zs. z ∷ zs) o (each (map f xs))) none
  each-none (z ∷ xs) (suc i) d x within is none = ap (with_both (λ z zs. z ∷ zs) (f z)) (each-none xs i d x (omega arith) is none) ∙ neither (f z)
    where
      neither : (o : Option Y) → with_both (λ (z : Y) (zs : List Y). z ∷ zs) o None ≡ None
      neither None = refl
      neither (Some a) = refl
