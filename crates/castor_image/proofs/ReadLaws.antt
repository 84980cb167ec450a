-- Two parts that are read one by one, as they are due.
use Rattle.std.proofs.Common.{◌≡◌, ◌∙◌, ℕ, List, [], ◌∷◌, inl, Result, Ok, Err, MatchResult, Option, Some, None, subst, ap, sym, refl}
use Rattle.castor_alg.specs.declared.held.Held.{Held, Parts}
use Rattle.castor_code.specs.Readings.{Reader, parts_read}
use Rattle.castor_code.specs.Steps.{next}
use Rattle.castor_code.proofs.StepLaws.{got, next_of}
use Rattle.castor_image.specs.declared.error.OpenError.{OpenError}
use Rattle.castor_image.specs.declared.error.OpenError.TheVariants.{Memory}
use Rattle.castor_image.specs.Takes.{Takes, second_read}
use Rattle.castor_image.proofs.TakeLaws.{Lacks, lacks_more}

module _ (one other : Reader) (bs : List ℕ) where
  abbrev after_first : Option (Held × List ℕ) → Option (Held × List ℕ)
  after_first o = next (next o (λ h rest. next (next (other rest) (λ g more. got (g ∷ []) more)) (λ hs more. got (h ∷ hs) more))) (λ hs rest. got (Parts hs) rest)

  both_parts : (x : Held) (o : Option (Held × List ℕ)) → next (next (next o (λ g more. got (g ∷ []) more)) (λ hs more. got (x ∷ hs) more)) (λ hs rest. got (Parts hs) rest) ≡ next o (λ g more. got (Parts (x ∷ g ∷ [])) more)
  both_parts x None = refl
  both_parts x (Some p) = refl

  -- what is due where the first part is read
  then_second : (x : Held) (c : List ℕ) → one bs ≡ Some (x, c) → parts_read (one ∷ other ∷ []) bs ≡ second_read x other c
  then_second x c first = ap after_first first ∙ both_parts x (other c)

  pub no_first : (e : OpenError) → Lacks e (one bs ≡ None) → Lacks e (parts_read (one ∷ other ∷ []) bs ≡ None)
  no_first e why = lacks_more e (λ none. ap after_first none) why

  pub take_second : {T : Type 0} (view : T → Held) (x : Held) (c left : List ℕ) (r : Result T OpenError) → one bs ≡ Some (x, c) → Takes view (second_read x other c) left r → Takes view (parts_read (one ∷ other ∷ []) bs) left r
  take_second {T} view x c left r first took = subst (λ (o : Option (Held × List ℕ)). Takes view o left r) (sym (then_second x c first)) took

pub second_there : (x y : Held) (kid : Reader) (bs c : List ℕ) (r : Result Held OpenError) → kid bs ≡ Some (y, c) → MatchResult r (λ h. h ≡ Parts (x ∷ y ∷ [])) (λ e. e ≡ Memory) → Takes (λ h. h) (second_read x kid bs) c r
second_there x y kid bs c (Ok h) read is = next_of (kid bs) (λ g rest. got (Parts (x ∷ g ∷ [])) rest) y c read ∙ ap (λ (g : Held). got g c) (sym is)
second_there x y kid bs c (Err e) read is = inl is

pub no_second : (x : Held) (kid : Reader) (bs : List ℕ) (e : OpenError) → Lacks e (kid bs ≡ None) → Lacks e (second_read x kid bs ≡ None)
no_second x kid bs e why = lacks_more e (λ none. ap (λ (o : Option (Held × List ℕ)). next o (λ g rest. got (Parts (x ∷ g ∷ [])) rest)) none) why
