-- Codes over the answers of the calls for operands.
use Rattle.std.proofs.Common.{◌≡◌, ◌∙◌, ◌⊎◌, inl, inr, ℕ, ◌+◌, ◌<◌, ◌≤◌, List, [], ◌∷◌, ◌++◌, map, length, take, get_or, slice_get, refl, sym, ap, option_map, Option, Some, None, Result, Ok, Err, IfOk, IsOkAnd, arith}
use Rattle.std.specs.List.{flat_map}
use Rattle.std.specs.Option.{ok_or}
use Rattle.std.proofs.lemmas.List.{length-take-le, take_all, take_more}
use Rattle.std.proofs.lemmas.Simd.{map-map}
use Rattle.castor_val.specs.declared.memory.Memory.{Memory as M}
use Rattle.castor_val.specs.declared.value.Cell.{Cell}
use Rattle.castor_val.specs.declared.value.Ty.{Ty}
use Rattle.castor_val.specs.Values.{value_of}
use Rattle.castor_alg.specs.declared.context.Context.{Context}
use Rattle.castor_alg.specs.declared.expr.Expr.{Expr}
use Rattle.castor_alg.specs.declared.held.Entry.{Entry}
use Rattle.castor_alg.specs.declared.held.Held.{Held}
use Rattle.castor_alg.specs.declared.rel.Bound.{Bound}
use Rattle.castor_alg.specs.declared.rel.Rel.{Rel}
use Rattle.castor_alg.specs.declared.typing.TypeError.TheVariants.{Ill, Memory}
use Rattle.castor_code.specs.declared.code.Code.{Code}
use Rattle.castor_code.specs.declared.code.Code as C
use Rattle.castor_code.specs.LayoutMeaning.{all_in}
use Rattle.castor_ltype.specs.declared.laid.Laid.{Laid}
use Rattle.castor_ltype.specs.declared.laid.LaidParts.{LaidParts}
use Rattle.castor_ltype.specs.Generation.{body_range, code_over, count_range, generator, hash_code, key_codes, kids, list_code, ord_code, part_codes, scalar_code}
use Rattle.castor_ltype.specs.Places.{children, entries, key_value, part}
use Rattle.castor_ltype.specs.Sizes.{IsLaid, added, held_size, key_size, parts_size, value_size}
use Rattle.castor_ltype.proofs.GeneratorLaws.{codes_of_parts, part_codes-are}
use Rattle.castor_ltype.proofs.SizeLaws.{added-map, map-same, parts_size-more}

-- the column types of a source, by the answer of the call for them
pub types_found : (o : Option (List Ty)) (types : List Ty) → ok_or o Ill ≡ Ok types → types ≡ all_in o
types_found (Some columns) types is = cc
types_found None types is = cc

pub no_types_found : (o : Option (List Ty)) → (Ill ≡ Memory) ⊎ (ok_or o Ill ≡ Err Ill) → [] ≡ all_in o
no_types_found None why = refl
no_types_found (Some columns) (inl is) = cc
no_types_found (Some columns) (inr is) = cc

-- the codes of operands, one operand more
codes-more : (i : ℕ) (rs : List Rel) (r : Rel) (context : Context) (hs : List Held) → codes_of_parts i (rs ++ r ∷ []) context hs ≡ codes_of_parts i rs context hs ++ code_over r context (map (part (i + length rs)) hs) ∷ []
codes-more i [] r context hs = let at : i + 0 ≡ i = omega arith in ap (λ n. code_over r context (map (part n) hs) ∷ []) (sym at)
codes-more i (s ∷ rs) r context hs =
    let at : (i + 1) + length rs ≡ i + length (s ∷ rs) = omega arith in
    ap (λ cs. code_over s context (map (part i) hs) ∷ cs) (codes-more (i + 1) rs r context hs ∙ ap (λ n. codes_of_parts (i + 1) rs context hs ++ code_over r context (map (part n) hs) ∷ []) at)

length-codes : (i : ℕ) (rs : List Rel) (context : Context) (hs : List Held) → length (codes_of_parts i rs context hs) ≡ length rs
length-codes i [] context hs = refl
length-codes i (r ∷ rs) context hs = let rest = length-codes (i + 1) rs context hs in omega arith

-- no operand yet
pub no_parts : {X : Type 0} (codes : List Code) (sizes : List ℕ) (xs : List X) (hs : List Held) → codes ≡ [] → length xs ≡ length hs → sizes ≡ map (λ x. 0) xs → sizes ≡ map (parts_size 0 codes) hs
no_parts codes sizes xs hs is many so = so ∙ none xs hs many ∙ ap (λ cs. map (parts_size 0 cs) hs) (sym is)
  where
    none : {X : Type 0} (xs : List X) (hs : List Held) → length xs ≡ length hs → map (λ (x : X). 0) xs ≡ map (parts_size 0 []) hs
    none [] [] same = refl
    none [] (h ∷ hs) same = absurd (omega arith)
    none (x ∷ xs) [] same = absurd (omega arith)
    none (x ∷ xs) (h ∷ hs) same = ap (λ ns. 0 ∷ ns) (none xs hs (omega arith))

module _ (rs : List Rel) (i at : ℕ) (r : Rel) (context : Context) (hs : List Held) (before after : LaidParts) (kid : Laid)
    (within : i < length rs) (is : r ≡ get_or rs i r) (here : at ≡ i) (codes : before.codes ≡ part_codes 0 (map generator (take i rs)) context hs) (sizes : before.sizes.items ≡ map (parts_size 0 before.codes) hs)
    (laid : IsLaid (code_over r context (map (part at) hs)) (map (part at) hs) kid) (more : after.codes ≡ before.codes ++ kid.code ∷ []) (summed : after.sizes.items ≡ added before.sizes.items kid.sizes.items) where
  many : length (take i rs) ≡ i
  many = length-take-le i rs (omega arith)

  so_far : before.codes ≡ codes_of_parts 0 (take i rs) context hs
  so_far = codes ∙ part_codes-are 0 (take i rs) context hs

  pub part_codes_more : after.codes ≡ part_codes 0 (map generator (take (i + 1) rs)) context hs
  part_codes_more =
      let place : 0 + length (take i rs) ≡ at = omega (arith, many, here) in
      more ∙ (λ j. so_far j ++ laid.code j ∷ [])
      ∙ ap (λ n. codes_of_parts 0 (take i rs) context hs ++ code_over r context (map (part n) hs) ∷ []) (sym place)
      ∙ sym (codes-more 0 (take i rs) r context hs) ∙ ap (λ (qs : List Rel). codes_of_parts 0 qs context hs) (ap (λ (q : Rel). take i rs ++ q ∷ []) is ∙ sym (take_more rs i r within))
      ∙ sym (part_codes-are 0 (take (i + 1) rs) context hs)

  pub part_sizes_more : after.sizes.items ≡ map (parts_size 0 after.codes) hs
  part_sizes_more =
      let long : length before.codes ≡ i = ap length so_far ∙ length-codes 0 (take i rs) context hs ∙ many in
      let place : at ≡ 0 + length before.codes = omega (arith, long, here) in
      let behind : kid.sizes.items ≡ map (λ h. held_size kid.code (part at h)) hs = laid.sizes ∙ map-map (held_size kid.code) (part at) hs in
      summed ∙ (λ j. added (sizes j) (behind j)) ∙ added-map (parts_size 0 before.codes) (λ h. held_size kid.code (part at h)) hs
      ∙ ap (λ n. map (λ h. parts_size 0 before.codes h + held_size kid.code (part n h)) hs) place
      ∙ map-same (λ h. parts_size 0 before.codes h + held_size kid.code (part (0 + length before.codes) h)) (parts_size 0 (before.codes ++ kid.code ∷ [])) (λ h. sym (parts_size-more 0 before.codes kid.code h)) hs
      ∙ ap (λ (cs : List Code). map (parts_size 0 cs) hs) (sym more)

pub all_parts : (rs : List Rel) (i : ℕ) (context : Context) (hs : List Held) (codes : List Code) → length rs ≤ i → codes ≡ part_codes 0 (map generator (take i rs)) context hs → codes ≡ part_codes 0 (map generator rs) context hs
all_parts rs i context hs codes end is = is ∙ ap (λ (qs : List Rel). part_codes 0 (map generator qs) context hs) (take_all i rs end)

-- what is laid over things that are these
pub laid_over : (code : List Held → Code) (hs gs : List Held) (laid : Laid) → hs ≡ gs → IsLaid (code hs) hs laid → IsLaid (code gs) gs laid
laid_over code hs gs laid same is = record { code = is.code ∙ ap code same; sizes = is.sizes ∙ ap (map (held_size laid.code)) same }

-- a list, whose children are these
pub list_whole : (body : List Held → Code) (hs all : List Held) (kid laid : Laid) → all ≡ flat_map children hs → IsLaid (body all) all kid → IsLaid (list_code (λ xs. kid.code) hs) hs laid → IsLaid (list_code body hs) hs laid
list_whole body hs all kid laid same so is = record { code = is.code ∙ ap (λ (c : Code). list_code (λ xs. c) hs) (so.code ∙ ap body same); sizes = is.sizes }

pub child_sizes : (body : List Held → Code) (hs all : List Held) (kid : Laid) → all ≡ flat_map children hs → IsLaid (body all) all kid → kid.sizes.items ≡ map (held_size kid.code) (flat_map children hs)
child_sizes body hs all kid same so = so.sizes ∙ ap (map (held_size kid.code)) same

-- an index, whose entries are these
module _ (body : List Held → Code) (hs : List Held) (all : List Entry) (kid laid : Laid) (same : all ≡ flat_map entries hs) (so : IsLaid (body (kids all)) (kids all) kid) where
  under : kid.code ≡ body (kids (flat_map entries hs))
  under = so.code ∙ ap (λ (es : List Entry). body (kids es)) same

  pub sizes_under : kid.sizes.items ≡ map (held_size kid.code) (kids (flat_map entries hs))
  sizes_under = so.sizes ∙ ap (λ (es : List Entry). map (held_size kid.code) (kids es)) same

  pub hash_whole : (types : List Ty) (by : List Expr) (keyed : List Entry) (key : LaidParts) → keyed ≡ flat_map entries hs → key.codes ≡ key_codes 0 types keyed → laid.code ≡ C.Hash (count_range hs) (body_range key.codes kid.code hs) key.codes kid.code by → laid.sizes.items ≡ map (held_size laid.code) hs
      → IsLaid (hash_code types body by hs) hs laid
  hash_whole types by keyed key these keys code sizes =
      let columns : key.codes ≡ key_codes 0 types (flat_map entries hs) = keys ∙ ap (key_codes 0 types) these in
      record { code = code ∙ (λ i. C.Hash (count_range hs) (body_range (columns i) (under i) hs) (columns i) (under i) by); sizes = sizes }

  pub ord_whole : (types : List Ty) (lo hi : Bound) (keyed : List Entry) (key : Laid) → keyed ≡ flat_map entries hs → key.code ≡ scalar_code (slice_get types 0) (map (key_value 0) keyed)
      → laid.code ≡ C.Ord (count_range hs) (body_range (key.code ∷ []) kid.code hs) key.code kid.code lo hi → laid.sizes.items ≡ map (held_size laid.code) hs → IsLaid (ord_code types body lo hi hs) hs laid
  ord_whole types lo hi keyed key these is code sizes =
      let column : key.code ≡ scalar_code (slice_get types 0) (map (key_value 0) (flat_map entries hs)) = is ∙ ap (λ (es : List Entry). scalar_code (slice_get types 0) (map (key_value 0) es)) these in
      record { code = code ∙ (λ i. C.Ord (count_range hs) (body_range (column i ∷ []) (under i) hs) (column i) (under i) lo hi); sizes = sizes }

pub column_sizes : (hs : List Held) (all : List Entry) (key : LaidParts) → all ≡ flat_map entries hs → key.sizes.items ≡ map (key_size 0 key.codes) all → key.sizes.items ≡ map (key_size 0 key.codes) (flat_map entries hs)
column_sizes hs all key same so = so ∙ ap (map (key_size 0 key.codes)) same

pub first_sizes : (all : List Entry) (cells : List (Option Cell)) (key : Laid) → map (option_map value_of) cells ≡ map (key_value 0) all → key.sizes.items ≡ map (λ (o : Option Cell). value_size key.code (option_map value_of o)) cells
    → key.sizes.items ≡ map (key_size 0 (key.code ∷ [])) all
first_sizes all cells key values so =
    so ∙ sym (map-map (value_size key.code) (option_map value_of) cells) ∙ ap (map (value_size key.code)) values ∙ map-map (value_size key.code) (key_value 0) all
    ∙ map-same (λ (e : Entry). value_size key.code (key_value 0 e)) (key_size 0 (key.code ∷ [])) (λ e. alone (value_size key.code (key_value 0 e))) all
  where
    alone : (n : ℕ) → n ≡ n + 0
    alone n = omega arith

pub key_sizes : (hs : List Held) (all : List Entry) (key : Laid) → all ≡ flat_map entries hs → key.sizes.items ≡ map (key_size 0 (key.code ∷ [])) all → key.sizes.items ≡ map (key_size 0 (key.code ∷ [])) (flat_map entries hs)
key_sizes hs all key same so = so ∙ ap (map (key_size 0 (key.code ∷ []))) same

-- ---- codes over operands for which there was memory

pub if_laid : (r : Result Laid M) (P Q : Laid → Type 0) → ((k : Laid) → P k → Q k) → IfOk r P → IfOk r Q
if_laid (Ok k) P Q f is = f k is
if_laid (Err why) P Q f is = tt

pub over_one : {X : Type 0} (r : Result Laid M) (kid : Result X M) (P : X → Type 0) (C : Laid → X → Type 0) (Q : Laid → Type 0) → IfOk kid P → IfOk r (λ laid. IsOkAnd kid (λ k. C laid k))
    → ((laid : Laid) (k : X) → P k → C laid k → Q laid) → IfOk r Q
over_one (Err why) kid P C Q known one f = tt
over_one (Ok laid) (Ok k) P C Q known one f = f laid k known one
over_one (Ok laid) (Err why) P C Q known one f = absurd one

pub over_both : {X : Type 0} (r : Result Laid M) (kid : Result X M) (P : X → Type 0) (C S : Laid → X → Type 0) (Q : Laid → Type 0) → IfOk kid P → IfOk r (λ laid. IsOkAnd kid (λ k. C laid k)) → IfOk r (λ laid. IsOkAnd kid (λ k. S laid k))
    → ((laid : Laid) (k : X) → P k → C laid k → S laid k → Q laid) → IfOk r Q
over_both (Err why) kid P C S Q known one two f = tt
over_both (Ok laid) (Ok k) P C S Q known one two f = f laid k known one two
over_both (Ok laid) (Err why) P C S Q known one two f = absurd one

-- the codes and the sizes of parts, and the code and the sizes over them
pub over_parts : (r : Result Laid M) (parts : Result LaidParts M) (P S : LaidParts → Type 0) (C D : Laid → LaidParts → Type 0) (Q : Laid → Type 0) → IfOk parts P → IfOk parts S
    → IfOk r (λ laid. IsOkAnd parts (λ p. C laid p)) → IfOk r (λ laid. IsOkAnd parts (λ p. D laid p))
    → ((laid : Laid) (p : LaidParts) → P p → S p → C laid p → D laid p → Q laid) → IfOk r Q
over_parts (Err why) parts P S C D Q codes sizes one two f = tt
over_parts (Ok laid) (Ok p) P S C D Q codes sizes one two f = f laid p codes sizes one two
over_parts (Ok laid) (Err why) P S C D Q codes sizes one two f = absurd one

-- a key and a kid, and the code and the sizes over both
pub over_two : {X : Type 0} (r : Result Laid M) (key : Result X M) (kid : Result Laid M) (K : X → Type 0) (P : Laid → Type 0) (C : Laid → X → Laid → Type 0) (S Q : Laid → Type 0) → IfOk key K → IfOk kid P
    → IfOk r (λ laid. IsOkAnd key (λ x. IsOkAnd kid (λ y. C laid x y))) → IfOk r S
    → ((laid : Laid) (x : X) (y : Laid) → K x → P y → C laid x y → S laid → Q laid) → IfOk r Q
over_two (Err why) key kid K P C S Q keys kids one two f = tt
over_two (Ok laid) (Ok x) (Ok y) K P C S Q keys kids one two f = f laid x y keys kids one two
over_two (Ok laid) (Ok x) (Err why) K P C S Q keys kids one two f = absurd one
over_two (Ok laid) (Err why) kid K P C S Q keys kids one two f = absurd one

-- one part more
pub more_parts : (r parts : Result LaidParts M) (part : Result Laid M) (A B : LaidParts → Type 0) (P : Laid → Type 0) (C S : LaidParts → LaidParts → Laid → Type 0) (Q : LaidParts → Type 0)
    → IfOk parts A → IfOk parts B → IfOk part P
    → IfOk r (λ laid. IsOkAnd parts (λ p. IsOkAnd part (λ k. C laid p k))) → IfOk r (λ laid. IsOkAnd parts (λ p. IsOkAnd part (λ k. S laid p k)))
    → ((laid p : LaidParts) (k : Laid) → A p → B p → P k → C laid p k → S laid p k → Q laid) → IfOk r Q
more_parts (Err why) parts part A B P C S Q a b known one two f = tt
more_parts (Ok laid) (Ok p) (Ok k) A B P C S Q a b known one two f = f laid p k a b known one two
more_parts (Ok laid) (Ok p) (Err why) A B P C S Q a b known one two f = absurd one
more_parts (Ok laid) (Err why) part A B P C S Q a b known one two f = absurd one

pub both_known : (r : Result Laid M) (C S Q : Laid → Type 0) → IfOk r C → IfOk r S → ((laid : Laid) → C laid → S laid → Q laid) → IfOk r Q
both_known (Ok laid) C S Q one two f = f laid one two
both_known (Err why) C S Q one two f = tt

-- what was made of what was laid
pub over_made : {X Y : Type 0} (r : Result Y M) (given : Result X M) (P : X → Type 0) (C : Y → X → Type 0) (Q : Y → Type 0) → IfOk given P → IfOk r (λ y. IsOkAnd given (λ x. C y x)) → ((y : Y) (x : X) → P x → C y x → Q y) → IfOk r Q
over_made (Err why) given P C Q known one f = tt
over_made (Ok y) (Ok x) P C Q known one f = f y x known one
over_made (Ok y) (Err why) P C Q known one f = absurd one

pub over_made_twice : {X Y : Type 0} (r : Result Y M) (given : Result X M) (P : X → Type 0) (C D : Y → X → Type 0) (Q : Y → Type 0) → IfOk given P → IfOk r (λ y. IsOkAnd given (λ x. C y x)) → IfOk r (λ y. IsOkAnd given (λ x. D y x))
    → ((y : Y) (x : X) → P x → C y x → D y x → Q y) → IfOk r Q
over_made_twice (Err why) given P C D Q known one two f = tt
over_made_twice (Ok y) (Ok x) P C D Q known one two f = f y x known one two
over_made_twice (Ok y) (Err why) P C D Q known one two f = absurd one

-- the same where something is known of what was made
pub over_seen : {X Y : Type 0} (r : Result Y M) (given : Result X M) (P : X → Type 0) (C : Y → X → Type 0) (S Q : Y → Type 0) → IfOk given P → IfOk r (λ y. IsOkAnd given (λ x. C y x)) → IfOk r S
    → ((y : Y) (x : X) → P x → C y x → S y → Q y) → IfOk r Q
over_seen (Err why) given P C S Q known one two f = tt
over_seen (Ok y) (Ok x) P C S Q known one two f = f y x known one two
over_seen (Ok y) (Err why) P C S Q known one two f = absurd one
