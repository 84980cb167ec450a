-- What is held for a final query that passed its checks, and the image that is due behind them.
use Rattle.std.proofs.Common.{◌≡◌, ◌⊎◌, ℕ, List, Result, Ok, Err, refl, sym, ap, subst, inl, inr}
use Rattle.castor_val.specs.declared.fault.Faults.{Faults}
use Rattle.castor_val.specs.declared.table.Table.{Table}
use Rattle.castor_alg.specs.declared.held.Held.{Held}
use Rattle.castor_alg.specs.declared.rel.Rel.{Rel}
use Rattle.castor_image.specs.Images.{Content}
use Rattle.castor_schema.specs.declared.checked.Checked.{Checked}
use Rattle.castor_alg.specs.HeldData.{held_data}
use Rattle.castor_alg.specs.Stages.{Staged, stage}
use Rattle.castor_cli.specs.declared.status.Status.{Status}
use Rattle.castor_cli.specs.declared.status.Status.TheVariants as status
use Rattle.castor_cli.specs.After.{after}
use Rattle.castor_cli.specs.Building.{BuildsImage, held_last, if_held, if_ordered, if_staged, keeps_order}
use Rattle.castor_cli.specs.Laying.{IsFinal, IsHeldFor}
use Rattle.castor_cli.specs.Sound.{IsSound, TablesFit}

-- ---- one check behind another

pub record Through {A B : Type 0} (r : Result A Status) (next : A → Result B Status) (b : B) : Type 0 where
  pub first : A
  pub is : r ≡ Ok first
  pub rest : next first ≡ Ok b

pub through : {A B : Type 0} (r : Result A Status) (next : A → Result B Status) (b : B) → after r next ≡ Ok b → Through r next b
through (Ok a) next b is = record { first = a; is = refl; rest = is }
through (Err why) next b is = absurd (cc is)

staged_is : (r : Staged) (q p : Rel) → if_staged r q ≡ Ok p → r ≡ Ok tt
staged_is (Ok fine) q p is = refl
staged_is (Err why) q p is = absurd (cc is)

held_is : (r : Result Held Faults) (h : Held) → if_held r ≡ Ok h → r ≡ Ok h
held_is (Ok g) h is = let same : g ≡ h = cc is in ap (λ (x : Held). Ok x) same
held_is (Err f) h is = absurd (cc is)

-- what is held for a final query that was staged
pub record IsHeld (final : Rel) (tables : List Table) (held : Held) : Type 0 where
  pub staged : stage final ≡ Ok tt
  pub data_is : held_data final tables ≡ Ok held

pub held_in : (q : Rel) (tables : List Table) (final : Rel) (held : Held) → held_last q tables final ≡ Ok held → IsHeld final tables held
held_in q tables final held is =
    let ordered = through (if_ordered (keeps_order q final) final) (λ o. after (if_staged (stage final) final) (λ s. if_held (held_data final tables))) held is in
    let staged = through (if_staged (stage final) final) (λ s. if_held (held_data final tables)) held ordered.rest in
    record { staged = staged_is (stage final) final staged.first staged.is; data_is = held_is (held_data final tables) held staged.rest }

-- what is held for a checked query, whose final query passed its checks
pub held_for : (c : Checked) (tables : List Table) (final : Rel) (held : Held) → IsSound c → TablesFit c tables → IsFinal c final → held_last c.query tables final ≡ Ok held → IsHeldFor c final held
held_for c tables final held sound fit made is =
    let h = held_in c.query tables final held is in
    record { sound = sound; final_is = made; staged = h.staged; tables = tables; fit = fit; held_is = h.data_is }

-- ---- the image behind a check

pub built_after : {A : Type 0} (r : Result A Status) (next : A → Result Content Status) (a : A) (given : Result (List ℕ) Status) → r ≡ Ok a → BuildsImage (next a) given → BuildsImage (after r next) given
built_after {A} r next a given is h = subst (λ (q : Result A Status). BuildsImage (after q next) given) (sym is) h

pub refused_after : {A : Type 0} (r : Result A Status) (next : A → Result Content Status) (s : Status) → (s ≡ status.Memory) ⊎ (r ≡ Err s) → BuildsImage (after r next) (Err s)
refused_after r next s (inl memory) = inl memory
refused_after {A} r next s (inr is) = inr (subst (λ (q : Result A Status). after q next ≡ Err s) (sym is) refl)
