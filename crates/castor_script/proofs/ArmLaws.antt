-- What the code makes of each operator is what is due.
use Rattle.std.proofs.Common.{◌≡◌, ◌∙◌, ℕ, ◌+◌, ◌^◌, ◌≤◌, List, map, sym, ap, subst, Bool, true, false, Result, Ok, Err}
use Rattle.std.specs.Prelude.{IfOk, IsOkAnd, MatchResult}
use Rattle.castor_val.specs.declared.memory.Memory.{Memory as NoMemory}
use Rattle.castor_val.specs.declared.value.Ty.{Ty}
use Rattle.castor_alg.specs.declared.expr.Expr.{Expr}
use Rattle.castor_alg.specs.declared.rel.Agg.{Agg}
use Rattle.castor_alg.specs.declared.rel.Bound.{Bound}
use Rattle.castor_alg.specs.declared.rel.Key.{Key}
use Rattle.castor_alg.specs.declared.rel.Rel.{Rel}
use Rattle.castor_alg.specs.declared.rel.Rel as R
use Rattle.castor_alg.proofs.RelInduction.{fold-Table, fold-Select, fold-Filter, fold-Join, fold-DepJoin, fold-Group, fold-Order, fold-Dedup}
use Rattle.castor_nest.specs.Store.{stored}
use Rattle.castor_script.specs.declared.step_error.StepError.TheVariants.{TooLarge, Memory}
use Rattle.castor_script.specs.Finish.{finished, over_all, placed, two_finished}
use Rattle.castor_script.specs.Made.{GivesMade, Made, MadeFrom, MadeOver}
use Rattle.castor_script.specs.Settled.{RunScopes, is_layout, is_settled, layout_step, with_scope}
use Rattle.castor_script.proofs.FinishClauses.{kept_by, stored_if_settled, finished-Table, finished-Scalar, finished-Cross, finished-Concat, finished-Select, finished-Filter, finished-Join, finished-DepJoin, finished-Group, finished-Order, finished-Dedup, finished-List, finished-Hash, finished-Ord}
use Rattle.castor_script.proofs.MadeLaws.{Copies, both_copied, box_copied, from_due, over_due, within_as}

-- a copy of the same
copied_as : {C : Type 0} (c slice : C) (copied : Result C NoMemory) → slice ≡ c → Copies slice copied → Copies c copied
copied_as c slice copied is copies = subst (λ x. Copies x copied) is copies

module _ (tables : List (List Ty)) (runs : RunScopes) (next : ℕ) (q : Rel) (result : Made Rel) where
  abbrev Given : Type 0
  Given = GivesMade (finished tables q runs next) result

  abbrev due : Rel → Rel × ℕ
  due r = finished tables r runs next

  moved : (kept : Rel × ℕ) → due q ≡ kept → GivesMade kept result → Given
  moved kept is gives = subst (λ (d : Rel × ℕ). GivesMade d result) (sym is) gives

  stays : (x : Rel) (kept : Rel × ℕ) → q ≡ x → is_layout x ≡ false → due x ≡ placed tables x runs next kept → is_settled runs q ≡ false → GivesMade kept result → Given
  stays x kept is layout clause settled gives = moved kept (kept_by tables runs next q x kept is layout clause settled) gives

  -- an operand as it was given
  operand_as : (r operand : Rel) (scopes : RunScopes) (number : ℕ) (made : Made Rel) → operand ≡ r → GivesMade (finished tables operand scopes number) made → GivesMade (finished tables r scopes number) made
  operand_as r operand scopes number made same gives = subst (λ (o : Rel). GivesMade (finished tables o scopes number) made) same gives

  pub settled_arm : is_settled runs q ≡ true → GivesMade (stored tables next q, next + 1) result → Given
  settled_arm settled gives = moved _ (stored_if_settled tables runs next q settled) gives

  pub table_arm : (n : ℕ) → q ≡ R.Table n → is_settled runs q ≡ false → GivesMade (R.Table n, next) result → Given
  table_arm n is settled gives = stays (R.Table n) (R.Table n, next) is (fold-Table Bool layout_step n) (finished-Table tables runs next n) settled gives

  scalar_due : (e : Expr) (copied : Result Expr NoMemory) (made : Made Rel) → next ≤ 2 ^ 32 → Copies e copied → MatchResult made (λ over. IsOkAnd copied (λ c. over ≡ (R.Scalar c, next))) (λ why. why ≡ Memory) → GivesMade (R.Scalar e, next) made
  scalar_due e (Ok copy) (Ok over) below copies is = ((λ i. (R.Scalar (sym copies i), next)) ∙ sym is, within_as over (R.Scalar copy, next) is below)
  scalar_due e (Err why) (Ok over) below copies is = absurd is
  scalar_due e copied (Err Memory) below copies is = tt
  scalar_due e copied (Err TooLarge) below copies is = cc

  pub scalar_arm : (e : Expr) (copied : Result Expr NoMemory) → q ≡ R.Scalar e → next ≤ 2 ^ 32 → Copies e copied → MatchResult result (λ over. IsOkAnd copied (λ c. over ≡ (R.Scalar c, next))) (λ why. why ≡ Memory) → Given
  scalar_arm e copied is below copies over = moved _ (ap due is ∙ finished-Scalar tables runs next e) (scalar_due e copied result below copies over)

  all_as : (rs slice : List Rel) (made : Made (List Rel)) → slice ≡ rs → GivesMade (over_all (map (finished tables) slice) runs next) made → GivesMade (over_all (map (finished tables) rs) runs next) made
  all_as rs slice made same gives = subst (λ (os : List Rel). GivesMade (over_all (map (finished tables) os) runs next) made) same gives

  pub cross_arm : (rs slice : List Rel) (made : Made (List Rel)) → q ≡ R.Cross rs → slice ≡ rs → GivesMade (over_all (map (finished tables) slice) runs next) made → MadeFrom R.Cross made result → Given
  cross_arm rs slice made is same gives from = moved _ (ap due is ∙ finished-Cross tables runs next rs) (from_due R.Cross _ made result (all_as rs slice made same gives) from)

  pub concat_arm : (rs slice : List Rel) (made : Made (List Rel)) → q ≡ R.Concat rs → slice ≡ rs → GivesMade (over_all (map (finished tables) slice) runs next) made → MadeFrom R.Concat made result → Given
  concat_arm rs slice made is same gives from = moved _ (ap due is ∙ finished-Concat tables runs next rs) (from_due R.Concat _ made result (all_as rs slice made same gives) from)

  pub select_arm : (es slice : List Expr) (r operand : Rel) (copied : Result (List Expr) NoMemory) (made : Made Rel) → q ≡ R.Select es r → is_settled runs q ≡ false → slice ≡ es → operand ≡ r → Copies slice copied → GivesMade (due operand) made → MadeOver R.Select copied made result → Given
  select_arm es slice r operand copied made is settled same_items same copies gives over =
      stays (R.Select es r) _ is (fold-Select Bool layout_step es r) (finished-Select tables runs next es r) settled
      (over_due R.Select es (due r) copied made result (copied_as es slice copied same_items copies) (operand_as r operand runs next made same gives) over)

  pub filter_arm : (e : Expr) (r operand : Rel) (copied : Result Expr NoMemory) (made : Made Rel) → q ≡ R.Filter e r → is_settled runs q ≡ false → operand ≡ r → Copies e copied → GivesMade (due operand) made → MadeOver R.Filter copied made result → Given
  filter_arm e r operand copied made is settled same copies gives over =
      stays (R.Filter e r) _ is (fold-Filter Bool layout_step e r) (finished-Filter tables runs next e r) settled
      (over_due R.Filter e (due r) copied made result copies (operand_as r operand runs next made same gives) over)

  two_as : (scopes : RunScopes) (r s first second : Rel) (made : Made (Rel × Rel)) → first ≡ r → second ≡ s → GivesMade (two_finished (due first) (finished tables second scopes)) made → GivesMade (two_finished (due r) (finished tables s scopes)) made
  two_as scopes r s first second made same also gives =
      subst (λ (o : Rel). GivesMade (two_finished (due o) (finished tables s scopes)) made) same
      (subst (λ (o : Rel). GivesMade (two_finished (due first) (finished tables o scopes)) made) also gives)

  pub join_arm : (e : Expr) (r s first second : Rel) (copied : Result Expr NoMemory) (made : Made (Rel × Rel)) → q ≡ R.Join e r s → is_settled runs q ≡ false → first ≡ r → second ≡ s → Copies e copied → GivesMade (two_finished (due first) (finished tables second runs)) made → MadeOver (λ e pair. R.Join e pair.0 pair.1) copied made result → Given
  join_arm e r s first second copied made is settled same also copies gives over =
      stays (R.Join e r s) _ is (fold-Join Bool layout_step e r s) (finished-Join tables runs next e r s) settled
      (over_due (λ e (pair : Rel × Rel). R.Join e pair.0 pair.1) e (two_finished (due r) (finished tables s runs)) copied made result copies (two_as runs r s first second made same also gives) over)

  pub depjoin_arm : (k : ℕ) (r s first second : Rel) (made : Made (Rel × Rel)) → q ≡ R.DepJoin k r s → is_settled runs q ≡ false → first ≡ r → second ≡ s → GivesMade (two_finished (due first) (finished tables second (with_scope true runs k))) made → MadeFrom (λ pair. R.DepJoin k pair.0 pair.1) made result → Given
  depjoin_arm k r s first second made is settled same also gives from =
      stays (R.DepJoin k r s) _ is (fold-DepJoin Bool layout_step k r s) (finished-DepJoin tables runs next k r s) settled
      (from_due (λ (pair : Rel × Rel). R.DepJoin k pair.0 pair.1) (two_finished (due r) (finished tables s (with_scope true runs k))) made result (two_as (with_scope true runs k) r s first second made same also gives) from)

  pub group_arm : (ks keys : List ℕ) (aggs slice : List Agg) (r operand : Rel) (copied_keys : Result (List ℕ) NoMemory) (copied_aggs : Result (List Agg) NoMemory) (copied : Result (List ℕ × List Agg) NoMemory) (made : Made Rel) → q ≡ R.Group ks aggs r → is_settled runs q ≡ false → keys ≡ ks → slice ≡ aggs → operand ≡ r
      → Copies keys copied_keys → Copies slice copied_aggs → IfOk copied (λ p. copied_keys ≡ Ok p.0) → IfOk copied (λ p. copied_aggs ≡ Ok p.1)
      → GivesMade (due operand) made → MadeOver (λ lists r. R.Group lists.0 lists.1 r) copied made result → Given
  group_arm ks keys aggs slice r operand copied_keys copied_aggs copied made is settled same_keys same_aggs same first second left right gives over =
      let both = both_copied ks aggs copied_keys copied_aggs copied left right (copied_as ks keys copied_keys same_keys first) (copied_as aggs slice copied_aggs same_aggs second) in
      stays (R.Group ks aggs r) _ is (fold-Group Bool layout_step ks aggs r) (finished-Group tables runs next ks aggs r) settled
      (over_due (λ (lists : List ℕ × List Agg) r. R.Group lists.0 lists.1 r) (ks, aggs) (due r) copied made result both (operand_as r operand runs next made same gives) over)

  pub order_arm : (ks slice : List Key) (r operand : Rel) (copied : Result (List Key) NoMemory) (made : Made Rel) → q ≡ R.Order ks r → is_settled runs q ≡ false → slice ≡ ks → operand ≡ r → Copies slice copied → GivesMade (due operand) made → MadeOver R.Order copied made result → Given
  order_arm ks slice r operand copied made is settled same_keys same copies gives over =
      stays (R.Order ks r) _ is (fold-Order Bool layout_step ks r) (finished-Order tables runs next ks r) settled
      (over_due R.Order ks (due r) copied made result (copied_as ks slice copied same_keys copies) (operand_as r operand runs next made same gives) over)

  pub dedup_arm : (r operand : Rel) (made : Made Rel) → q ≡ R.Dedup r → is_settled runs q ≡ false → operand ≡ r → GivesMade (due operand) made → MadeFrom R.Dedup made result → Given
  dedup_arm r operand made is settled same gives from =
      stays (R.Dedup r) _ is (fold-Dedup Bool layout_step r) (finished-Dedup tables runs next r) settled
      (from_due R.Dedup (due r) made result (operand_as r operand runs next made same gives) from)

  -- the body of a layout
  abbrev body_due : ℕ → Rel → Rel × ℕ
  body_due k s = finished tables s (with_scope false runs k) next

  source_copied : (r source : Rel) (copied boxed : Result Rel NoMemory) → source ≡ r → Copies source copied → IfOk boxed (λ kept. copied ≡ Ok kept) → Copies r boxed
  source_copied r source copied boxed same copies kept = box_copied r copied boxed kept (copied_as r source copied same copies)

  pub list_arm : (k : ℕ) (r s source body : Rel) (copied boxed : Result Rel NoMemory) (made : Made Rel) → q ≡ R.List k r s → source ≡ r → body ≡ s → Copies source copied → IfOk boxed (λ kept. copied ≡ Ok kept) → GivesMade (body_due k body) made → MadeOver (λ r s. R.List k r s) boxed made result → Given
  list_arm k r s source body copied boxed made is same also copies kept gives over =
      moved _ (ap due is ∙ finished-List tables runs next k r s)
      (over_due (λ r s. R.List k r s) r (body_due k s) boxed made result (source_copied r source copied boxed same copies kept) (operand_as s body (with_scope false runs k) next made also gives) over)

  pub hash_arm : (k : ℕ) (r s source body : Rel) (es slice : List Expr) (copied boxed : Result Rel NoMemory) (keys : Result (List Expr) NoMemory) (pair : Result (Rel × List Expr) NoMemory) (made : Made Rel) → q ≡ R.Hash k r s es → source ≡ r → body ≡ s → slice ≡ es
      → Copies source copied → IfOk boxed (λ kept. copied ≡ Ok kept) → Copies slice keys → IfOk pair (λ p. boxed ≡ Ok p.0) → IfOk pair (λ p. keys ≡ Ok p.1)
      → GivesMade (body_due k body) made → MadeOver (λ outside s. R.Hash k outside.0 s outside.1) pair made result → Given
  hash_arm k r s source body es slice copied boxed keys pair made is same also same_keys copies kept copied_keys left right gives over =
      let outside = both_copied r es boxed keys pair left right (source_copied r source copied boxed same copies kept) (copied_as es slice keys same_keys copied_keys) in
      moved _ (ap due is ∙ finished-Hash tables runs next k r s es)
      (over_due (λ (outside : Rel × List Expr) s. R.Hash k outside.0 s outside.1) (r, es) (body_due k s) pair made result outside (operand_as s body (with_scope false runs k) next made also gives) over)

  pub ord_arm : (k : ℕ) (r s source body : Rel) (lo hi : Bound) (copied boxed : Result Rel NoMemory) (lower upper : Result Bound NoMemory) (bounds : Result (Bound × Bound) NoMemory) (pair : Result (Rel × (Bound × Bound)) NoMemory) (made : Made Rel) → q ≡ R.Ord k r s lo hi → source ≡ r → body ≡ s
      → Copies source copied → IfOk boxed (λ kept. copied ≡ Ok kept) → Copies lo lower → Copies hi upper → IfOk bounds (λ p. lower ≡ Ok p.0) → IfOk bounds (λ p. upper ≡ Ok p.1) → IfOk pair (λ p. boxed ≡ Ok p.0) → IfOk pair (λ p. bounds ≡ Ok p.1)
      → GivesMade (body_due k body) made → MadeOver (λ outside s. R.Ord k outside.0 s outside.1.0 outside.1.1) pair made result → Given
  ord_arm k r s source body lo hi copied boxed lower upper bounds pair made is same also copies kept low high first second left right gives over =
      let ends = both_copied lo hi lower upper bounds first second low high in
      let outside = both_copied r (lo, hi) boxed bounds pair left right (source_copied r source copied boxed same copies kept) ends in
      moved _ (ap due is ∙ finished-Ord tables runs next k r s lo hi)
      (over_due (λ (outside : Rel × (Bound × Bound)) s. R.Ord k outside.0 s outside.1.0 outside.1.1) (r, (lo, hi)) (body_due k s) pair made result outside (operand_as s body (with_scope false runs k) next made also gives) over)
