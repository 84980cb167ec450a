-- The code of each relation, over those of its operands.
use Rattle.std.proofs.Common.{◌≡◌, ◌∙◌, ℕ, List, [], ◌∷◌, map, refl, sym, ap, ◌+◌}
use Rattle.castor_val.specs.declared.value.Ty.{Ty}
use Rattle.castor_alg.specs.declared.context.Context.{Context}
use Rattle.castor_alg.specs.declared.expr.Expr.{Expr}
use Rattle.castor_alg.specs.declared.held.Held.{Held}
use Rattle.castor_alg.specs.declared.rel.Agg.{Agg}
use Rattle.castor_alg.specs.declared.rel.Bound.{Bound}
use Rattle.castor_alg.specs.declared.rel.Key.{Key}
use Rattle.castor_alg.specs.declared.rel.Rel.{Rel}
use Rattle.castor_alg.specs.declared.rel.Rel as R
use Rattle.castor_alg.specs.declared.rel.Rel.TheOpen as F
use Rattle.castor_alg.specs.Typing.{RelTyping, column_types_step, extended, type_under, types_under}
use Rattle.castor_alg.proofs.RelInduction.{With, relations, rel_induction, fold-Table, fold-Scalar, fold-Cross, fold-Concat, fold-Select, fold-Filter, fold-Join, fold-DepJoin, fold-Group, fold-Order, fold-Dedup, fold-List, fold-Hash, fold-Ord}
use Rattle.castor_code.specs.declared.code.Code.{Code}
use Rattle.castor_code.specs.declared.code.Code as C
use Rattle.castor_code.specs.LayoutMeaning.{all_in}
use Rattle.castor_code.specs.Shapes.{leaf_of}
use Rattle.castor_ltype.specs.Generation.{Generator, code_over, generator, generator_step, hash_code, list_code, ord_code, part_codes, scalar_code}
use Rattle.castor_ltype.specs.Places.{inner, part}

abbrev types_in : Generator → RelTyping
types_in g = g.types

-- the column types that are kept beside a code are those of the relation
abbrev IsTyped : Rel → Type 0
IsTyped q = types_in (generator q) ≡ types_under q

operands_typed : (rs : List (With IsTyped)) → map types_in (map generator (relations rs)) ≡ map types_under (relations rs)
operands_typed [] = refl
operands_typed (r ∷ rs) = (λ i. r.1 i ∷ operands_typed rs i)

pub generator_types : (q : Rel) → IsTyped q
generator_types = rel_induction IsTyped record {
  table = λ n. ap types_in (fold-Table Generator generator_step n) ∙ sym (fold-Table RelTyping column_types_step n);
  scalar = λ e. ap types_in (fold-Scalar Generator generator_step e) ∙ sym (fold-Scalar RelTyping column_types_step e);
  cross = λ rs. ap types_in (fold-Cross Generator generator_step (relations rs)) ∙ ap (λ ts. column_types_step (F.Cross ts)) (operands_typed rs) ∙ sym (fold-Cross RelTyping column_types_step (relations rs));
  concat = λ rs. ap types_in (fold-Concat Generator generator_step (relations rs)) ∙ ap (λ ts. column_types_step (F.Concat ts)) (operands_typed rs) ∙ sym (fold-Concat RelTyping column_types_step (relations rs));
  select = λ es r x. ap types_in (fold-Select Generator generator_step es r) ∙ ap (λ t. column_types_step (F.Select es t)) x ∙ sym (fold-Select RelTyping column_types_step es r);
  filter = λ e r x. ap types_in (fold-Filter Generator generator_step e r) ∙ ap (λ t. column_types_step (F.Filter e t)) x ∙ sym (fold-Filter RelTyping column_types_step e r);
  join = λ e r s x y. ap types_in (fold-Join Generator generator_step e r s) ∙ (λ i. column_types_step (F.Join e (x i) (y i))) ∙ sym (fold-Join RelTyping column_types_step e r s);
  depjoin = λ k r s x y. ap types_in (fold-DepJoin Generator generator_step k r s) ∙ (λ i. column_types_step (F.DepJoin k (x i) (y i))) ∙ sym (fold-DepJoin RelTyping column_types_step k r s);
  group = λ ks aggs r x. ap types_in (fold-Group Generator generator_step ks aggs r) ∙ ap (λ t. column_types_step (F.Group ks aggs t)) x ∙ sym (fold-Group RelTyping column_types_step ks aggs r);
  order = λ ks r x. ap types_in (fold-Order Generator generator_step ks r) ∙ ap (λ t. column_types_step (F.Order ks t)) x ∙ sym (fold-Order RelTyping column_types_step ks r);
  dedup = λ r x. ap types_in (fold-Dedup Generator generator_step r) ∙ ap (λ t. column_types_step (F.Dedup t)) x ∙ sym (fold-Dedup RelTyping column_types_step r);
  list = λ k r s x y. ap types_in (fold-List Generator generator_step k r s) ∙ (λ i. column_types_step (F.List k (x i) (y i))) ∙ sym (fold-List RelTyping column_types_step k r s);
  hash = λ k r s es x y. ap types_in (fold-Hash Generator generator_step k r s es) ∙ (λ i. column_types_step (F.Hash k (x i) (y i) es)) ∙ sym (fold-Hash RelTyping column_types_step k r s es);
  ordered = λ k r s lo hi x y. ap types_in (fold-Ord Generator generator_step k r s lo hi) ∙ (λ i. column_types_step (F.Ord k (x i) (y i) lo hi)) ∙ sym (fold-Ord RelTyping column_types_step k r s lo hi);
}

-- the codes of operands, each over all parts with its number
abbrev pub codes_of_parts : ℕ → List Rel → Context → List Held → List Code
codes_of_parts i [] context hs = []
codes_of_parts i (r ∷ rs) context hs = code_over r context (map (part i) hs) ∷ codes_of_parts (i + 1) rs context hs

pub part_codes-are : (i : ℕ) (rs : List Rel) (context : Context) (hs : List Held) → part_codes i (map generator rs) context hs ≡ codes_of_parts i rs context hs
part_codes-are i [] context hs = refl
part_codes-are i (r ∷ rs) context hs = ap (λ cs. code_over r context (map (part i) hs) ∷ cs) (part_codes-are (i + 1) rs context hs)

-- the column types of a source, none where it isn't well typed
abbrev pub source_types : Rel → Context → List Ty
source_types r context = all_in (types_under r context)

-- the code of the body of a binder
abbrev pub body_code : ℕ → Rel → Rel → Context → List Held → Code
body_code k r s context hs = code_over s (extended context k (source_types r context)) hs

module _ (context : Context) (hs : List Held) where
  abbrev here : Generator → Code
  here g = g.code context hs

  pub code-Table : (n : ℕ) → code_over (R.Table n) context hs ≡ C.Cross []
  code-Table n = ap here (fold-Table Generator generator_step n)

  pub code-Scalar : (e : Expr) → code_over (R.Scalar e) context hs ≡ scalar_code (type_under e [] context) (map leaf_of hs)
  code-Scalar e = ap here (fold-Scalar Generator generator_step e)

  pub code-Cross : (rs : List Rel) → code_over (R.Cross rs) context hs ≡ C.Cross (codes_of_parts 0 rs context hs)
  code-Cross rs = ap here (fold-Cross Generator generator_step rs) ∙ ap C.Cross (part_codes-are 0 rs context hs)

  pub code-Concat : (rs : List Rel) → code_over (R.Concat rs) context hs ≡ C.Concat (codes_of_parts 0 rs context hs)
  code-Concat rs = ap here (fold-Concat Generator generator_step rs) ∙ ap C.Concat (part_codes-are 0 rs context hs)

  pub code-Select : (es : List Expr) (r : Rel) → code_over (R.Select es r) context hs ≡ C.Select es (code_over r context (map inner hs))
  code-Select es r = ap here (fold-Select Generator generator_step es r)

  pub code-Filter : (e : Expr) (r : Rel) → code_over (R.Filter e r) context hs ≡ C.Filter e (code_over r context (map inner hs))
  code-Filter e r = ap here (fold-Filter Generator generator_step e r)

  pub code-Join : (e : Expr) (r s : Rel) → code_over (R.Join e r s) context hs ≡ C.Cross []
  code-Join e r s = ap here (fold-Join Generator generator_step e r s)

  pub code-DepJoin : (k : ℕ) (r s : Rel) → code_over (R.DepJoin k r s) context hs ≡ C.Dep k (code_over r context (map (part 0) hs)) (body_code k r s context (map (part 1) hs))
  code-DepJoin k r s = ap here (fold-DepJoin Generator generator_step k r s) ∙ ap (λ (t : RelTyping). C.Dep k (code_over r context (map (part 0) hs)) (code_over s (extended context k (all_in (t context))) (map (part 1) hs))) (generator_types r)

  pub code-Group : (ks : List ℕ) (aggs : List Agg) (r : Rel) → code_over (R.Group ks aggs r) context hs ≡ C.Group ks aggs (code_over r context (map inner hs))
  code-Group ks aggs r = ap here (fold-Group Generator generator_step ks aggs r)

  pub code-Order : (ks : List Key) (r : Rel) → code_over (R.Order ks r) context hs ≡ C.Order ks (code_over r context (map inner hs))
  code-Order ks r = ap here (fold-Order Generator generator_step ks r)

  pub code-Dedup : (r : Rel) → code_over (R.Dedup r) context hs ≡ C.Dedup (code_over r context (map inner hs))
  code-Dedup r = ap here (fold-Dedup Generator generator_step r)

  pub code-List : (k : ℕ) (r s : Rel) → code_over (R.List k r s) context hs ≡ list_code (body_code k r s context) hs
  code-List k r s = ap here (fold-List Generator generator_step k r s) ∙ ap (λ (t : RelTyping). list_code (λ xs. code_over s (extended context k (all_in (t context))) xs) hs) (generator_types r)

  pub code-Hash : (k : ℕ) (r s : Rel) (es : List Expr) → code_over (R.Hash k r s es) context hs ≡ hash_code (source_types r context) (body_code k r s context) es hs
  code-Hash k r s es = ap here (fold-Hash Generator generator_step k r s es) ∙ ap (λ (t : RelTyping). hash_code (all_in (t context)) (λ xs. code_over s (extended context k (all_in (t context))) xs) es hs) (generator_types r)

  pub code-Ord : (k : ℕ) (r s : Rel) (lo hi : Bound) → code_over (R.Ord k r s lo hi) context hs ≡ ord_code (source_types r context) (body_code k r s context) lo hi hs
  code-Ord k r s lo hi = ap here (fold-Ord Generator generator_step k r s lo hi) ∙ ap (λ (t : RelTyping). ord_code (all_in (t context)) (λ xs. code_over s (extended context k (all_in (t context))) xs) lo hi hs) (generator_types r)
