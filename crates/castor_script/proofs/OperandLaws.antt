-- What becomes of operands, one after the other.
use Rattle.std.proofs.Common.{◌≡◌, ◌∙◌, ℕ, ◌+◌, ◌^◌, ◌<◌, ◌≤◌, List, [], ◌∷◌, ◌++◌, length, get_or, drop, map, refl, sym, ap, subst, inr, Ok, Err, arith}
use Rattle.std.specs.Prelude.{MatchResult}
use Rattle.std.proofs.lemmas.List.{append-nil, append_assoc, drop_more}
use Rattle.std.proofs.Math.ListN.{drop_of_length-le}
use Rattle.castor_val.specs.declared.value.Ty.{Ty}
use Rattle.castor_alg.specs.declared.rel.Rel.{Rel}
use Rattle.castor_script.specs.declared.step_error.StepError.{StepError}
use Rattle.castor_script.specs.Finish.{finished, over_all, two_finished}
use Rattle.castor_script.specs.Made.{GivesMade, Made, TwoMade}
use Rattle.castor_script.specs.Settled.{RunScopes}
use Rattle.castor_script.proofs.FinishClauses.{grows}
use Rattle.castor_script.proofs.MadeLaws.{at_most, refused}

-- what a call that made something gave
pub given_is : {X : Type 0} (due : X × ℕ) (made : Made X) (given : X) (after : ℕ) → made ≡ Ok (given, after) → GivesMade due made → (due ≡ (given, after)) × (after ≤ 2 ^ 32)
given_is {X} due made given after is gives = subst (λ (m : Made X). GivesMade due m) is gives

module _ (tables : List (List Ty)) (runs : RunScopes) where
  abbrev all_due : List Rel → ℕ → List Rel × ℕ
  all_due rs next = over_all (map (finished tables) rs) runs next

  rest_grows : (rs : List Rel) (next : ℕ) → next ≤ (all_due rs next).1
  rest_grows [] next = omega arith
  rest_grows (r ∷ rs) next =
      let below = grows tables r runs next in
      let more = rest_grows rs (finished tables r runs next).1 in
      omega arith

  two_gives : (scopes : RunScopes) (s : Rel) (n : ℕ) (first : Rel × ℕ) (second : Made Rel) (two : Made (Rel × Rel)) → n ≡ first.1 → GivesMade (finished tables s scopes n) second → TwoMade (Ok first) second two → GivesMade (two_finished first (finished tables s scopes)) two
  two_gives scopes s n first (Ok second) two is (same, below) both =
      subst (λ (m : Made (Rel × Rel)). GivesMade (two_finished first (finished tables s scopes)) m) (sym both)
      (ap (λ (d : Rel × ℕ). ((first.0, d.0), d.1)) (there ∙ same), below)
    where
      there : finished tables s scopes first.1 ≡ finished tables s scopes n
      there = ap (finished tables s scopes) (sym is)
  two_gives scopes s n first (Err why) two is gives both =
      subst (λ (m : Made (Rel × Rel)). GivesMade (two_finished first (finished tables s scopes)) m) (sym both)
      (refused (finished tables s scopes first.1) (two_finished first (finished tables s scopes)) (Err why) why (at_most (finished tables s scopes first.1).1)
      (subst (λ (m : ℕ). GivesMade (finished tables s scopes m) (Err why)) is gives) (inr refl))

  -- two operands, of which the second is made after the first
  pub two_due : (scopes : RunScopes) (r s : Rel) (next n : ℕ) (first second : Made Rel) (two : Made (Rel × Rel)) → GivesMade (finished tables r runs next) first → MatchResult first (λ m. n ≡ m.1) (λ _. n ≡ 0) → GivesMade (finished tables s scopes n) second → TwoMade first second two → GivesMade (two_finished (finished tables r runs next) (finished tables s scopes)) two
  two_due scopes r s next n (Ok first) second two (same, below) is gives both =
      subst (λ (d : Rel × ℕ). GivesMade (two_finished d (finished tables s scopes)) two) (sym same) (two_gives scopes s n first second two is gives both)
  two_due scopes r s next n (Err why) second two refuses is gives both =
      subst (λ (m : Made (Rel × Rel)). GivesMade (two_finished (finished tables r runs next) (finished tables s scopes)) m) (sym both)
      (refused (finished tables r runs next) (two_finished (finished tables r runs next) (finished tables s scopes)) (Err why) why (grows tables s scopes (finished tables r runs next).1) refuses (inr refl))

  -- what is made so far, and what becomes of the others
  abbrev pub MadeSoFar : List Rel → ℕ → ℕ → List Rel → ℕ → Type 0
  MadeSoFar operands next i made number = all_due operands next ≡ (made ++ (all_due (drop i operands) number).0, (all_due (drop i operands) number).1)

  rest_is : (operands : List Rel) (i : ℕ) (operand : Rel) (number : ℕ) → i < length operands → operand ≡ get_or operands i operand → all_due (drop i operands) number ≡ all_due (operand ∷ drop (i + 1) operands) number
  rest_is operands i operand number within is = ap (λ rs. all_due rs number) (drop_more operands i operand within ∙ ap (λ (r : Rel). r ∷ drop (i + 1) operands) (sym is))

  pub made_more : (operands : List Rel) (next i : ℕ) (made more : List Rel) (number : ℕ) (operand given : Rel) (after : ℕ) → i < length operands → operand ≡ get_or operands i operand → finished tables operand runs number ≡ (given, after) → more ≡ made ++ given ∷ [] → MadeSoFar operands next i made number → MadeSoFar operands next (i + 1) more after
  made_more operands next i made more number operand given after within is step pushed before =
      before
      ∙ ap (λ (d : List Rel × ℕ). (made ++ d.0, d.1)) (rest_is operands i operand number within is)
      ∙ ap (λ (d : Rel × ℕ). (made ++ (d.0 ∷ (all_due (drop (i + 1) operands) d.1).0), (all_due (drop (i + 1) operands) d.1).1)) step
      ∙ ap (λ rs. (rs, (all_due (drop (i + 1) operands) after).1)) (sym (append_assoc made (given ∷ []) (all_due (drop (i + 1) operands) after).0) ∙ ap (λ rs. rs ++ (all_due (drop (i + 1) operands) after).0) (sym pushed))

  pub made_refused : (operands : List Rel) (next i : ℕ) (made : List Rel) (number : ℕ) (operand : Rel) (failed : Made Rel) (why : StepError) → i < length operands → operand ≡ get_or operands i operand → failed ≡ Err why → GivesMade (finished tables operand runs number) failed → MadeSoFar operands next i made number → GivesMade (all_due operands next) (Err why)
  made_refused operands next i made number operand failed why within is fails gives before =
      subst (λ (d : List Rel × ℕ). GivesMade d (Err why)) (sym (before ∙ ap (λ (d : List Rel × ℕ). (made ++ d.0, d.1)) (rest_is operands i operand number within is)))
      (refused (finished tables operand runs number) (made ++ (all_due (operand ∷ drop (i + 1) operands) number).0, (all_due (operand ∷ drop (i + 1) operands) number).1) failed why (rest_grows (drop (i + 1) operands) (finished tables operand runs number).1) gives (inr fails))

  pub made_all : (operands : List Rel) (next i : ℕ) (made : List Rel) (number : ℕ) → length operands ≤ i → number ≤ 2 ^ 32 → MadeSoFar operands next i made number → GivesMade (all_due operands next) (Ok (made, number))
  made_all operands next i made number done below before =
      let none : drop i operands ≡ [] = drop_of_length-le operands done in
      let whole : all_due operands next ≡ (made, number) = before ∙ ap (λ rs. (made ++ (all_due rs number).0, (all_due rs number).1)) none ∙ ap (λ rs. (rs, number)) (append-nil made) in
      (whole, below)
