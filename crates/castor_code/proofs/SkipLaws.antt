-- The reads of a skip are few beside the nodes of a code.
use Rattle.std.proofs.Common.{◌≡◌, ℕ, ◌+◌, ◌-◌, ◌*◌, ◌^◌, ◌≤◌, min, sum, List, [], ◌∷◌, map, true, arith}
use Rattle.std.proofs.lemmas.Bool.{and_parts, leb-true}
use Rattle.std.proofs.lemmas.List.Sums.{sum_by-cons}
use Rattle.castor_code.specs.declared.code.Code.{Code}
use Rattle.castor_code.specs.Skips.{skip, skip_step}
use Rattle.castor_code.specs.Forms.{in_turn}
use Rattle.castor_code.specs.CodeForms.{CodeForm, code_form, code_form_step, form_in, is_well_formed}
use Rattle.castor_code.proofs.CodeInduction.{With, codes, code_induction, fold-Int, fold-Bool, fold-Text, fold-Cross, fold-Concat, fold-List, fold-Hash, fold-Ord, fold-Select, fold-Filter, fold-Dep, fold-Group, fold-Order, fold-Dedup}

abbrev Few : Code → Type 0
Few c = skip c ≤ 2 * (code_form c).form.nodes

moved : (s t : ℕ) (f g : CodeForm) → s ≡ t → f ≡ g → t ≤ 2 * g.form.nodes → s ≤ 2 * f.form.nodes
moved s t f g is same few = rw (is, same) few

few_of_all : (cs : List (With Few)) → sum (map skip (codes cs)) ≤ 2 * (in_turn (map form_in (map code_form (codes cs)))).nodes
few_of_all [] = omega arith
few_of_all (c ∷ cs) =
    let one = c.1 in
    let more = few_of_all cs in
    let here : sum (map skip (codes (c ∷ cs))) ≡ skip c.0 + sum (map skip (codes cs)) = sum_by-cons (λ n. n) (skip c.0) (map skip (codes cs)) in
    omega arith

few : (c : Code) → Few c
few = code_induction Few (record {
  int = λ lo hi. moved _ _ _ _ (fold-Int ℕ skip_step lo hi) (fold-Int CodeForm code_form_step lo hi) (omega arith);
  bool = moved _ _ _ _ (fold-Bool ℕ skip_step) (fold-Bool CodeForm code_form_step) (omega arith);
  text = λ min max. moved _ _ _ _ (fold-Text ℕ skip_step min max) (fold-Text CodeForm code_form_step min max) (omega arith);
  cross = λ cs. moved _ _ _ _ (fold-Cross ℕ skip_step (codes cs)) (fold-Cross CodeForm code_form_step (codes cs)) (let all = few_of_all cs in omega arith);
  concat = λ cs. moved _ _ _ _ (fold-Concat ℕ skip_step (codes cs)) (fold-Concat CodeForm code_form_step (codes cs)) (let all = few_of_all cs in omega arith);
  list = λ count body c one. moved _ _ _ _ (fold-List ℕ skip_step count body c) (fold-List CodeForm code_form_step count body c) (omega arith);
  hash = λ count body key c es one. moved _ _ _ _ (fold-Hash ℕ skip_step count body (codes key) c es) (fold-Hash CodeForm code_form_step count body (codes key) c es) (omega arith);
  ordered = λ count body key c lo hi first one. moved _ _ _ _ (fold-Ord ℕ skip_step count body key c lo hi) (fold-Ord CodeForm code_form_step count body key c lo hi) (omega arith);
  select = λ es c one. moved _ _ _ _ (fold-Select ℕ skip_step es c) (fold-Select CodeForm code_form_step es c) (omega arith);
  filter = λ e c one. moved _ _ _ _ (fold-Filter ℕ skip_step e c) (fold-Filter CodeForm code_form_step e c) (omega arith);
  dep = λ j c d first second. moved _ _ _ _ (fold-Dep ℕ skip_step j c d) (fold-Dep CodeForm code_form_step j c d) (omega arith);
  group = λ ks aggs c one. moved _ _ _ _ (fold-Group ℕ skip_step ks aggs c) (fold-Group CodeForm code_form_step ks aggs c) (omega arith);
  order = λ ks c one. moved _ _ _ _ (fold-Order ℕ skip_step ks c) (fold-Order CodeForm code_form_step ks c) (omega arith);
  dedup = λ c one. moved _ _ _ _ (fold-Dedup ℕ skip_step c) (fold-Dedup CodeForm code_form_step c) (omega arith);
})

nodes_few : (c : Code) → is_well_formed c ≡ true → (code_form c).form.nodes ≤ 8192
nodes_few c ok = leb-true _ _ (and_parts _ _ (and_parts _ _ ok).1).0

-- so the number of reads of a well-formed code isn't cut
pub whole_skip : (c : Code) (n : ℕ) → is_well_formed c ≡ true → n ≡ min (skip c) (2 ^ 64 - 1) → n ≡ skip c
whole_skip c n ok is = small n (skip c) (code_form c).form.nodes (few c) (nodes_few c ok) is
  where
    small : (n s m : ℕ) → s ≤ 2 * m → m ≤ 8192 → n ≡ min s (2 ^ 64 - 1) → n ≡ s
    small n s m few within is = omega arith
