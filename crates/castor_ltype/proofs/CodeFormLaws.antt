-- The form of each node of a code, over those of its parts.
use Rattle.std.proofs.Common.{◌≡◌, ◌∙◌, ℕ, ◌+◌, ◌≤◌, ℤ, pos, List, [], ◌∷◌, map, fold, length, refl, sym, ap, Bool, true, arith, nat_le, nat_lt, Option, Some}
use Rattle.std.specs.List.{flat_map, list_all}
use Rattle.std.proofs.lemmas.Bool.{and_from, and_parts, eq-eqb, le-leb, lt-ltb}
use Rattle.std.proofs.lemmas.List.{length-map}
use Rattle.castor_val.specs.declared.value.Ty.{Ty}
use Rattle.castor_val.specs.declared.value.Ty.TheVariants as ty
use Rattle.castor_val.specs.declared.value.Value.{Value}
use Rattle.castor_val.specs.Values.{is_int}
use Rattle.castor_alg.specs.declared.expr.Expr.{Expr}
use Rattle.castor_alg.specs.declared.held.Entry.{Entry}
use Rattle.castor_alg.specs.declared.rel.Agg.{Agg}
use Rattle.castor_alg.specs.declared.rel.Bound.{Bound}
use Rattle.castor_alg.specs.declared.rel.Key.{Key}
use Rattle.castor_code.specs.declared.code.Code.{Code}
use Rattle.castor_code.specs.declared.code.Code as C
use Rattle.castor_code.specs.CodeForms.{CodeForm, bound_form, code_form, code_form_step, expr_form, form_in, group_form, key_code_form, key_form, range_form, ranges_form, some_form}
use Rattle.castor_code.specs.Forms.{Form, in_turn, then_form}
use Rattle.castor_code.proofs.CodeInduction as node
use Rattle.castor_ltype.specs.Formed.{is_sized, is_sized_range, is_u16, is_u32, is_u64, sized_step}
use Rattle.castor_ltype.specs.Generation.{key_codes, scalar_code}
use Rattle.castor_ltype.specs.Places.{int_in, key_value, text_length_in}
use Rattle.castor_ltype.specs.Ranges.{greater, int_code, least_range, lesser, text_code}
use Rattle.castor_ltype.proofs.BoundLaws.{Bounded, bounded_behind, bounded_if, bounded_int, bounded_is, bounded_list, bounded_more, bounded_node, bounded_number, bounded_plain, bounded_then}
use Rattle.castor_ltype.proofs.RangeLaws.{ends_rise, range_rises}

-- the form of a code without what tells whether it is one of a single value
abbrev pub form_of : Code → Form
form_of c = form_in (code_form c)

-- a code whose form is this one
noded : (c : Code) (f : CodeForm) (n d : ℕ) → code_form c ≡ f → Bounded (form_in f) n d → Bounded (form_of c) n d
noded c f n d is b = bounded_is (form_of c) (form_in f) n n d d (ap form_in is) (omega arith) (omega arith) b

-- the range of numbers
pub least_bounded : (ns : List ℕ) → is_sized_range (least_range ns) ≡ true → Bounded (range_form (least_range ns)) 0 0
least_bounded ns sized =
    let lo = (least_range ns).lo in
    let hi = (least_range ns).hi in
    let parts = and_parts (is_u64 lo) (is_u64 hi) sized in
    bounded_if _ _ 0 0 (le-leb lo hi (range_rises ns)) (bounded_behind _ _ 0 0 (bounded_number 18446744073709551615 lo parts.0) (bounded_number 18446744073709551615 hi parts.1))

-- codes of single values
pub record ScalarFormed (c : Code) : Type 0 where
  pub scalar : (code_form c).scalar ≡ true
  pub bounded : Bounded (form_of c) 1 1

scalar_formed_by : (c : Code) (f : CodeForm) → code_form c ≡ f → f.scalar ≡ true → Bounded (form_in f) 1 1 → ScalarFormed c
scalar_formed_by c f is scalar b = record { scalar = ap (λ (x : CodeForm). x.scalar) is ∙ scalar; bounded = noded c f 1 1 is b }

int_formed : (zs : List ℤ) → is_sized (int_code zs) ≡ true → ScalarFormed (int_code zs)
int_formed [] sized = scalar_formed_by _ _ (node.fold-Int CodeForm code_form_step (pos 0) (pos 0)) refl (bounded_node 1 _ 0 0 (bounded_if true _ 0 0 refl (bounded_behind _ _ 0 0 (bounded_int (pos 0) refl) (bounded_int (pos 0) refl))))
int_formed (z ∷ zs) sized =
    let lo = fold lesser z zs in
    let hi = fold greater z zs in
    let parts = and_parts (is_int lo) (is_int hi) (sym (node.fold-Int Bool sized_step lo hi) ∙ sized) in
    scalar_formed_by _ _ (node.fold-Int CodeForm code_form_step lo hi) refl
    (bounded_node 1 _ 0 0 (bounded_if _ _ 0 0 (ends_rise z zs) (bounded_behind _ _ 0 0 (bounded_int lo parts.0) (bounded_int hi parts.1))))

text_formed : (ns : List ℕ) → is_sized (text_code ns) ≡ true → ScalarFormed (text_code ns)
text_formed ns sized =
    let min = (least_range ns).lo in
    let max = (least_range ns).hi in
    let parts = and_parts (is_u16 min) (is_u16 max) (sym (node.fold-Text Bool sized_step min max) ∙ sized) in
    scalar_formed_by _ _ (node.fold-Text CodeForm code_form_step min max) refl
    (bounded_node 3 _ 0 0 (bounded_if _ _ 0 0 (le-leb min max (range_rises ns)) (bounded_behind _ _ 0 0 (bounded_number 65535 min parts.0) (bounded_number 65535 max parts.1))))

bool_formed : ScalarFormed C.Bool
bool_formed = scalar_formed_by _ _ (node.fold-Bool CodeForm code_form_step) refl (bounded_node 2 _ 0 0 (bounded_plain true [] 0 0 refl))

pub scalar_formed : (t : Ty) (values : List (Option Value)) → is_sized (scalar_code (Some t) values) ≡ true → ScalarFormed (scalar_code (Some t) values)
scalar_formed ty.Int values sized = int_formed (flat_map int_in values) sized
scalar_formed ty.Bool values sized = bool_formed
scalar_formed ty.Text values sized = text_formed (flat_map text_length_in values) sized

key_bounded : (c : Code) → ScalarFormed c → Bounded (key_code_form (code_form c)) 1 1
key_bounded c formed = bounded_if _ _ 1 1 formed.scalar formed.bounded

-- the codes of keys
pub keys_formed : (j : ℕ) (types : List Ty) (es : List Entry) → list_all is_sized (key_codes j types es) ≡ true → Bounded (in_turn (map key_code_form (map code_form (key_codes j types es)))) (length types) 1
keys_formed j [] es sized = bounded_plain _ _ 0 1 refl
keys_formed j (t ∷ types) es sized =
    let c = scalar_code (Some t) (map (key_value j) es) in
    let parts = and_parts (is_sized c) (list_all is_sized (key_codes (j + 1) types es)) sized in
    let rest = in_turn (map key_code_form (map code_form (key_codes (j + 1) types es))) in
    let whole : length (t ∷ types) ≡ 1 + length types = omega arith in
    bounded_more _ (1 + length types) _ 1 1 (omega arith) (omega arith) (bounded_then (key_code_form (code_form c)) rest 1 (length types) 1 (key_bounded c (scalar_formed t (map (key_value j) es) parts.0)) (keys_formed (j + 1) types es parts.1))

pub length-keys : (j : ℕ) (types : List Ty) (es : List Entry) → length (key_codes j types es) ≡ length types
length-keys j [] es = refl
length-keys j (t ∷ types) es = let rest = length-keys (j + 1) types es in omega arith

-- nodes over kids
module _ (n d : ℕ) where
  kids_bounded : (cs : List Code) → nat_lt 0 (length cs) ≡ true → nat_le (length cs) 65535 ≡ true → Bounded (in_turn (map form_in (map code_form cs))) n d → Bounded (some_form form_in (map code_form cs)) n d
  kids_bounded cs some few kids =
      let count : length (map code_form cs) ≡ length cs = length-map cs code_form in
      bounded_if _ _ n d (ap (λ m. nat_lt 0 m) count ∙ some) (bounded_list form_in (map code_form cs) n d (ap (λ m. nat_le m 65535) count ∙ few) kids)

  pub cross_bounded : (cs : List Code) → nat_lt 0 (length cs) ≡ true → nat_le (length cs) 65535 ≡ true → Bounded (in_turn (map form_in (map code_form cs))) n d → Bounded (form_of (C.Cross cs)) (1 + n) (1 + d)
  cross_bounded cs some few kids = noded _ _ _ _ (node.fold-Cross CodeForm code_form_step cs) (bounded_node 4 _ n d (kids_bounded cs some few kids))

  pub concat_bounded : (cs : List Code) → nat_lt 0 (length cs) ≡ true → nat_le (length cs) 65535 ≡ true → Bounded (in_turn (map form_in (map code_form cs))) n d → Bounded (form_of (C.Concat cs)) (1 + n) (1 + d)
  concat_bounded cs some few kids = noded _ _ _ _ (node.fold-Concat CodeForm code_form_step cs) (bounded_node 5 _ n d (kids_bounded cs some few kids))

  pub group_bounded : (ks : List ℕ) (aggs : List Agg) (c : Code) → Bounded (group_form ks aggs) 0 0 → Bounded (form_of c) n d → Bounded (form_of (C.Group ks aggs c)) (1 + n) (1 + d)
  group_bounded ks aggs c over kid = noded _ _ _ _ (node.fold-Group CodeForm code_form_step ks aggs c) (bounded_node 12 _ n d (bounded_behind _ _ n d over kid))

  pub order_bounded : (ks : List Key) (c : Code) → Bounded (some_form key_form ks) 0 0 → Bounded (form_of c) n d → Bounded (form_of (C.Order ks c)) (1 + n) (1 + d)
  order_bounded ks c over kid = noded _ _ _ _ (node.fold-Order CodeForm code_form_step ks c) (bounded_node 13 _ n d (bounded_behind _ _ n d over kid))

  pub dedup_bounded : (c : Code) → Bounded (form_of c) n d → Bounded (form_of (C.Dedup c)) (1 + n) (1 + d)
  dedup_bounded c kid = noded _ _ _ _ (node.fold-Dedup CodeForm code_form_step c) (bounded_node 14 _ n d kid)

  -- the ranges of a count and of a body length, and then the others
  ranges_bounded : (f : Form) (ns ms : List ℕ) → is_sized_range (least_range ns) ≡ true → is_sized_range (least_range ms) ≡ true → Bounded f n d → Bounded (then_form (ranges_form (least_range ns) (least_range ms)) f) n d
  ranges_bounded f ns ms count body kid = bounded_behind _ f n d (bounded_behind _ _ 0 0 (least_bounded ns count) (least_bounded ms body)) kid

  pub list_bounded : (ns ms : List ℕ) (c : Code) → is_sized_range (least_range ns) ≡ true → is_sized_range (least_range ms) ≡ true → Bounded (form_of c) n d → Bounded (form_of (C.List (least_range ns) (least_range ms) c)) (1 + n) (1 + d)
  list_bounded ns ms c count body kid = noded _ _ _ _ (node.fold-List CodeForm code_form_step _ _ c) (bounded_node 6 _ n d (ranges_bounded _ ns ms count body kid))

  module _ (m e : ℕ) where
    pub select_bounded : (es : List Expr) (c : Code) → Bounded (some_form expr_form es) m e → e ≤ d → Bounded (form_of c) n d → Bounded (form_of (C.Select es c)) (1 + (m + n)) (1 + d)
    select_bounded es c over low kid = noded _ _ _ _ (node.fold-Select CodeForm code_form_step es c) (bounded_node 9 _ (m + n) d (bounded_then _ _ m n d (bounded_more _ m m e d (omega arith) low over) kid))

    pub filter_bounded : (a : Expr) (c : Code) → Bounded (expr_form a) m e → e ≤ d → Bounded (form_of c) n d → Bounded (form_of (C.Filter a c)) (1 + (m + n)) (1 + d)
    filter_bounded a c over low kid = noded _ _ _ _ (node.fold-Filter CodeForm code_form_step a c) (bounded_node 10 _ (m + n) d (bounded_then _ _ m n d (bounded_more _ m m e d (omega arith) low over) kid))

    pub dep_bounded : (k : ℕ) (b c : Code) → is_u32 k ≡ true → Bounded (form_of b) m e → e ≤ d → Bounded (form_of c) n d → Bounded (form_of (C.Dep k b c)) (1 + (m + n)) (1 + d)
    dep_bounded k b c small first low second = noded _ _ _ _ (node.fold-Dep CodeForm code_form_step k b c) (bounded_node 11 _ (m + n) d (bounded_behind _ _ (m + n) d (bounded_number 4294967295 k small) (bounded_then _ _ m n d (bounded_more _ m m e d (omega arith) low first) second)))

    -- an ordered index, with so many nodes in each of its bounds
    pub ord_bounded : (ns ms : List ℕ) (key c : Code) (lo hi : Bound) (l h : ℕ) → is_sized_range (least_range ns) ≡ true → is_sized_range (least_range ms) ≡ true → ScalarFormed key → Bounded (form_of c) n d → Bounded (bound_form lo) m l → Bounded (bound_form hi) e h
        → 1 ≤ d → l ≤ d → h ≤ d → Bounded (form_of (C.Ord (least_range ns) (least_range ms) key c lo hi)) (1 + (1 + (n + (m + e)))) (1 + d)
    ord_bounded ns ms key c lo hi l h count body scalar kid lower upper one low high =
        noded _ _ _ _ (node.fold-Ord CodeForm code_form_step _ _ key c lo hi)
        (bounded_node 8 _ (1 + (n + (m + e))) d (bounded_behind _ _ (1 + (n + (m + e))) d (bounded_behind _ _ 0 0 (least_bounded ns count) (least_bounded ms body))
        (bounded_then _ _ 1 (n + (m + e)) d (bounded_more _ 1 1 1 d (omega arith) one (key_bounded key scalar))
        (bounded_then _ _ n (m + e) d kid (bounded_then _ _ m e d (bounded_more _ m m l d (omega arith) low lower) (bounded_more _ e e h d (omega arith) high upper))))))

  -- a hash index, with as many expressions as codes for its key
  pub hash_bounded : (ns ms : List ℕ) (types : List Ty) (all : List Entry) (c : Code) (by : List Expr) (m e : ℕ) → is_sized_range (least_range ns) ≡ true → is_sized_range (least_range ms) ≡ true → list_all is_sized (key_codes 0 types all) ≡ true
      → 1 ≤ length types → length types ≤ 4 → length by ≡ length types → Bounded (form_of c) n d → Bounded (in_turn (map expr_form by)) m e → 1 ≤ d → e ≤ d
      → Bounded (form_of (C.Hash (least_range ns) (least_range ms) (key_codes 0 types all) c by)) (1 + (length types + (n + m))) (1 + d)
  hash_bounded ns ms types all c by m e count body key some few same kid over one low =
      let keys = map code_form (key_codes 0 types all) in
      let k = length types in
      let number : length keys ≡ k = length-map (key_codes 0 types all) code_form ∙ length-keys 0 types all in
      let right : length by ≡ length keys = same ∙ sym number in
      noded _ _ _ _ (node.fold-Hash CodeForm code_form_step _ _ (key_codes 0 types all) c by)
      (bounded_node 7 _ (k + (n + m)) d (bounded_behind _ _ (k + (n + m)) d (bounded_behind _ _ 0 0 (least_bounded ns count) (least_bounded ms body))
      (bounded_if _ _ (k + (n + m)) d (and_from _ _ (and_from _ _ (lt-ltb 0 (length keys) (omega arith)) (le-leb (length keys) 4 (omega arith))) (eq-eqb (length by) (length keys) right))
      (bounded_behind _ _ (k + (n + m)) d (bounded_number 255 (length keys) (le-leb (length keys) 255 (omega arith)))
      (bounded_then _ _ k (n + m) d (bounded_more _ k k 1 d (omega arith) one (keys_formed 0 types all key))
      (bounded_then _ _ n m d kid (bounded_more _ m m e d (omega arith) low over)))))))
