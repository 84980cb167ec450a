-- What a walk from left to right has found.
use Rattle.std.proofs.Common.{◌≡◌, ◌∙◌, ℕ, zero, suc, ◌+◌, ◌<◌, List, [], ◌∷◌, ◌++◌, length, map, take, get_or, refl, sym, ap, arith, Ok, Err}
use Rattle.std.proofs.lemmas.List.{take_more}
use Rattle.castor_alg.specs.declared.rel.Rel.{Rel}
use Rattle.castor_alg.specs.declared.phase.Phase.{Phase}
use Rattle.castor_alg.specs.declared.stage_error.StageError.{StageError}
use Rattle.castor_alg.specs.Stages.{Phases, Staged, Staging, both, in_turn, stage_under}

-- where nothing is found in two parts, nothing is found in the first
pub both_left : (a b : Staged) → both a b ≡ Ok tt → a ≡ Ok tt
both_left (Ok fine) b h = refl
both_left (Err why) b h = cc

-- and nothing in the second
pub both_right : (a b : Staged) → both a b ≡ Ok tt → b ≡ Ok tt
both_right (Ok fine) b h = h
both_right (Err why) b h = cc

both-assoc : (a b c : Staged) → both (both a b) c ≡ both a (both b c)
both-assoc (Ok fine) b c = refl
both-assoc (Err why) b c = refl

module _ {X : Type 0} (f : X → Staged) where
  abbrev turn : List X → Staged
  turn xs = in_turn (map f xs)

  turn-append : (xs ys : List X) → turn (xs ++ ys) ≡ both (turn xs) (turn ys)
  turn-append [] ys = refl
  turn-append (x ∷ xs) ys = ap (both (f x)) (turn-append xs ys) ∙ sym (both-assoc (f x) (turn xs) (turn ys))

  -- one part more, in which nothing is found
  pub turn-more : (xs : List X) (i : ℕ) (x : X) → i < length xs → x ≡ get_or xs i x → turn (take i xs) ≡ Ok tt → f x ≡ Ok tt → turn (take (i + 1) xs) ≡ Ok tt
  turn-more xs i x within is before here =
      ap turn (take_more xs i x within ∙ ap (λ (y : X). take i xs ++ y ∷ []) (sym is))
      ∙ turn-append (take i xs) (x ∷ [])
      ∙ ap (λ (s : Staged). both s (turn (x ∷ []))) before
      ∙ ap (λ (s : Staged). both s (Ok tt)) here

  -- the first part in which something is found
  pub turn-ends : (xs : List X) (i : ℕ) (x : X) (why : StageError) → i < length xs → x ≡ get_or xs i x → turn (take i xs) ≡ Ok tt → f x ≡ Err why → turn xs ≡ Err why
  turn-ends [] i x why within is before here = absurd (omega arith)
  turn-ends (y ∷ ys) zero x why within is before here = ap (λ (z : X). both (f z) (turn ys)) (sym is) ∙ ap (λ (s : Staged). both s (turn ys)) here
  turn-ends (y ∷ ys) (suc i) x why within is before here =
      ap (λ (s : Staged). both s (turn ys)) (both_left (f y) (turn (take i ys)) before)
      ∙ turn-ends ys i x why (omega arith) is (both_right (f y) (turn (take i ys)) before) here

operands_staged : (phase : Phase) (scopes : Phases) (rs : List Rel) → map (λ (r : Staging). r phase scopes) (map stage_under rs) ≡ map (λ (r : Rel). stage_under r phase scopes) rs
operands_staged phase scopes [] = refl
operands_staged phase scopes (r ∷ rs) = ap (λ parts. stage_under r phase scopes ∷ parts) (operands_staged phase scopes rs)

-- a relation that is its operands in turn
pub over_operands : (q : Rel) (phase : Phase) (scopes : Phases) (rs slice : List Rel) (result : Staged) → stage_under q phase scopes ≡ in_turn (map (λ (r : Staging). r phase scopes) (map stage_under rs)) → slice ≡ rs
    → result ≡ in_turn (map (λ (r : Rel). stage_under r phase scopes) slice) → result ≡ stage_under q phase scopes
over_operands q phase scopes rs slice result all same found =
    found ∙ ap (λ (xs : List Rel). in_turn (map (λ (r : Rel). stage_under r phase scopes) xs)) same
    ∙ ap in_turn (sym (operands_staged phase scopes rs)) ∙ sym all
