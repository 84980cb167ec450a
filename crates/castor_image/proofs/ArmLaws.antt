-- How each node of a code is written and read, by its kids.
use Rattle.std.proofs.Common.{◌≡◌, ◌∙◌, ℕ, ℤ, List, [], ◌∷◌, map, Result, subst, ap, sym}
use Rattle.castor_alg.specs.declared.expr.Expr.{Expr}
use Rattle.castor_alg.specs.declared.held.Held.{Held}
use Rattle.castor_alg.specs.declared.rel.Agg.{Agg}
use Rattle.castor_alg.specs.declared.rel.Bound.{Bound}
use Rattle.castor_alg.specs.declared.rel.Key.{Key}
use Rattle.castor_code.specs.declared.code.Code.{Code}
use Rattle.castor_code.specs.declared.code.Code as C
use Rattle.castor_code.specs.declared.code.Range.{Range}
use Rattle.castor_code.specs.Data.{Format, format, format_step, data_read, int_format, bool_format, text_format, parts_format, inner_format, list_format, hash_format, ord_format}
use Rattle.castor_code.proofs.CodeInduction.{fold-Int, fold-Bool, fold-Text, fold-Cross, fold-Concat, fold-List, fold-Hash, fold-Ord, fold-Select, fold-Filter, fold-Dep, fold-Group, fold-Order, fold-Dedup}
use Rattle.castor_image.specs.declared.error.OpenError.{OpenError}
use Rattle.castor_image.specs.declared.writing.PutError.{PutError}
use Rattle.castor_image.specs.Puts.{Puts}
use Rattle.castor_image.specs.Takes.{Takes}

-- the format of a node
module _ (c : Code) where
  pub int_node : (lo hi : ℤ) → c ≡ C.Int lo hi → format c ≡ int_format lo hi
  int_node lo hi is = ap format is ∙ fold-Int Format format_step lo hi

  pub bool_node : c ≡ C.Bool → format c ≡ bool_format
  bool_node is = ap format is ∙ fold-Bool Format format_step

  pub text_node : (min max : ℕ) → c ≡ C.Text min max → format c ≡ text_format (record { lo = min; hi = max })
  text_node min max is = ap format is ∙ fold-Text Format format_step min max

  pub cross_node : (ks slice : List Code) → c ≡ C.Cross ks → slice ≡ ks → format c ≡ parts_format (map format slice)
  cross_node ks slice is same = ap format is ∙ fold-Cross Format format_step ks ∙ ap (λ (xs : List Code). parts_format (map format xs)) (sym same)

  pub concat_node : (ks slice : List Code) → c ≡ C.Concat ks → slice ≡ ks → format c ≡ parts_format (map format slice)
  concat_node ks slice is same = ap format is ∙ fold-Concat Format format_step ks ∙ ap (λ (xs : List Code). parts_format (map format xs)) (sym same)

  pub list_node : (count body : Range) (k kid : Code) → c ≡ C.List count body k → kid ≡ k → format c ≡ list_format count body (format kid)
  list_node count body k kid is same = ap format is ∙ fold-List Format format_step count body k ∙ ap (λ (x : Code). list_format count body (format x)) (sym same)

  pub hash_node : (count body : Range) (ks slice : List Code) (k kid : Code) (es : List Expr) → c ≡ C.Hash count body ks k es → slice ≡ ks → kid ≡ k → format c ≡ hash_format count body (map format slice) (format kid)
  hash_node count body ks slice k kid es is same same_kid =
      ap format is ∙ fold-Hash Format format_step count body ks k es
      ∙ ap (λ (xs : List Code). hash_format count body (map format xs) (format k)) (sym same)
      ∙ ap (λ (x : Code). hash_format count body (map format slice) (format x)) (sym same_kid)

  pub ord_node : (count body : Range) (j k kid : Code) (slice : List Code) (lo hi : Bound) → c ≡ C.Ord count body j k lo hi → slice ≡ j ∷ [] → kid ≡ k → format c ≡ ord_format count body (map format slice) (format kid)
  ord_node count body j k kid slice lo hi is same same_kid =
      ap format is ∙ fold-Ord Format format_step count body j k lo hi
      ∙ ap (λ (xs : List Code). ord_format count body (map format xs) (format k)) (sym same)
      ∙ ap (λ (x : Code). ord_format count body (map format slice) (format x)) (sym same_kid)

  pub select_node : (es : List Expr) (k kid : Code) → c ≡ C.Select es k → kid ≡ k → format c ≡ inner_format (format kid)
  select_node es k kid is same = ap format is ∙ fold-Select Format format_step es k ∙ ap (λ (x : Code). inner_format (format x)) (sym same)

  pub filter_node : (e : Expr) (k kid : Code) → c ≡ C.Filter e k → kid ≡ k → format c ≡ inner_format (format kid)
  filter_node e k kid is same = ap format is ∙ fold-Filter Format format_step e k ∙ ap (λ (x : Code). inner_format (format x)) (sym same)

  pub dep_node : (j : ℕ) (a b first second : Code) → c ≡ C.Dep j a b → first ≡ a → second ≡ b → format c ≡ parts_format (format first ∷ format second ∷ [])
  dep_node j a b first second is same same_b =
      ap format is ∙ fold-Dep Format format_step j a b
      ∙ ap (λ (x : Code). parts_format (format x ∷ format b ∷ [])) (sym same)
      ∙ ap (λ (x : Code). parts_format (format first ∷ format x ∷ [])) (sym same_b)

  pub group_node : (ks : List ℕ) (aggs : List Agg) (k kid : Code) → c ≡ C.Group ks aggs k → kid ≡ k → format c ≡ inner_format (format kid)
  group_node ks aggs k kid is same = ap format is ∙ fold-Group Format format_step ks aggs k ∙ ap (λ (x : Code). inner_format (format x)) (sym same)

  pub order_node : (ks : List Key) (k kid : Code) → c ≡ C.Order ks k → kid ≡ k → format c ≡ inner_format (format kid)
  order_node ks k kid is same = ap format is ∙ fold-Order Format format_step ks k ∙ ap (λ (x : Code). inner_format (format x)) (sym same)

  pub dedup_node : (k kid : Code) → c ≡ C.Dedup k → kid ≡ k → format c ≡ inner_format (format kid)
  dedup_node k kid is same = ap format is ∙ fold-Dedup Format format_step k ∙ ap (λ (x : Code). inner_format (format x)) (sym same)

  -- what was put by the format was put for the code
  pub put_node : (f : Format) (h : Held) (old new : List ℕ) (r : Result (Unit {0}) PutError) → format c ≡ f → Puts (f.write h) old new r → Puts ((format c).write h) old new r
  put_node f h old new r is put = subst (λ (g : Format). Puts (g.write h) old new r) (sym is) put

  -- what was read by the format was read for the code
  pub take_node : {T : Type 0} (view : T → Held) (f : Format) (bs left : List ℕ) (r : Result T OpenError) → format c ≡ f → Takes view (f.read bs) left r → Takes view (data_read c bs) left r
  take_node {T} view f bs left r is took = subst (λ (g : Format). Takes view (g.read bs) left r) (sym is) took
