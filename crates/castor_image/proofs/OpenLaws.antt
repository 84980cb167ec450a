-- The steps that open an image, from the last to the first.
use Rattle.std.proofs.Common.{◌≡◌, ◌∙◌, ◌⊎◌, inl, inr, ℕ, List, [], Option, Some, None, Result, Ok, Err, MatchResult, Bool, true, false, ap, sym, refl, subst}
use Rattle.std.specs.Option.{ok_or}
use Rattle.castor_val.specs.Columns.{types_of}
use Rattle.castor_val.specs.Gives.{Gives}
use Rattle.castor_val.specs.declared.column.Column.{Column}
use Rattle.castor_val.specs.declared.value.Ty.{Ty}
use Rattle.castor_alg.specs.declared.held.Held.{Held}
use Rattle.castor_alg.specs.declared.typing.TypeError.{TypeError}
use Rattle.castor_alg.specs.declared.typing.TypeError.TheVariants as ill
use Rattle.castor_alg.proofs.TypingAnswers.{some-from_ok}
use Rattle.castor_code.specs.declared.code.Code.{Code}
use Rattle.castor_code.specs.CodeAnswers.{IsNoCode}
use Rattle.castor_code.specs.CodeForms.{code_bytes, is_well_formed}
use Rattle.castor_code.specs.Data.{fits, data_read}
use Rattle.castor_code.proofs.DataLaws.{reads_data}
use Rattle.castor_code.proofs.DecodeLaws.{codes_differ}
use Rattle.castor_image.specs.declared.error.OpenError.{OpenError}
use Rattle.castor_image.specs.declared.error.OpenError.TheVariants.{NotImage, Memory}
use Rattle.castor_image.specs.declared.head.Head.{Head}
use Rattle.castor_image.specs.Frames.{Frame, IsNoData, IsNoFrame, frame_read}
use Rattle.castor_image.specs.Images.{IsImageOf, IsNoImage, fits_head, has_types}
use Rattle.castor_image.specs.Opens.{ChecksColumns, IsLayout, Opens}
use Rattle.castor_image.proofs.ImageLaws.{no_frame, no_layout, opened_image}
use Rattle.castor_image.proofs.TakeLaws.{Lacks, lacks_more}

-- the bytes behind a head hold no layout
abbrev pub HoldNone : Head → List ℕ → List ℕ → Type 0
HoldNone head code_part data_part = (code : Code) (held : Held) → IsLayout head code_part data_part code held → ⊥

differ : {P : Type 0} (b : Bool) → b ≡ true → b ≡ false → P
differ b h k = cc

-- what is no code
pub code_refused : (head : Head) (code_part data_part : List ℕ) (e : OpenError) → Lacks e (IsNoCode code_part) → Lacks e (HoldNone head code_part data_part)
code_refused head code_part data_part e why = lacks_more e (λ none code held l. none code l.formed l.code_is) why

-- what doesn't fit the head
pub types_refused : (head : Head) (code : Code) (data_part : List ℕ) (e : OpenError) → is_well_formed code ≡ true → Lacks e (fits_head code head ≡ false) → Lacks e (HoldNone head (code_bytes code) data_part)
types_refused head code data_part e formed why =
    lacks_more e (λ no d held l. differ (fits_head code head) (ap (λ (k : Code). fits_head k head) (codes_differ code d formed l.formed l.code_is) ∙ l.typed) no) why

-- what is no data
pub data_refused : (head : Head) (code : Code) (data_part : List ℕ) (e : OpenError) → is_well_formed code ≡ true → Lacks e (IsNoData code data_part) → Lacks e (HoldNone head (code_bytes code) data_part)
data_refused head code data_part e formed why =
    lacks_more e (λ none d held l. none held (ap (λ (k : Code). data_read k data_part) (codes_differ code d formed l.formed l.code_is) ∙ l.data_is)) why

-- what is read as data fits
pub held_fits : (code : Code) (data_part : List ℕ) (held : Held) → data_read code data_part ≡ Some (held, []) → fits code held ≡ true
held_fits code data_part held is = ((reads_data code).taken data_part [] held is).0

-- what is no frame
pub frame_refused : (bytes : List ℕ) (e : OpenError) → Lacks e (IsNoFrame bytes) → Lacks e (IsNoImage bytes)
frame_refused bytes e why = lacks_more e (no_frame bytes) why

module _ {T : Type 0} (head_of : T → Head) (code_of : T → Code) (held_of : T → Held) where
  -- an image was opened, or the bytes are none, or there was no memory
  abbrev pub OpensImage : List ℕ → Result T OpenError → Type 0
  OpensImage bytes r = MatchResult r (λ i. IsImageOf (record { head = head_of i; code = code_of i; held = held_of i }) bytes) (λ e. (e ≡ Memory) ⊎ ((e ≡ NotImage) × IsNoImage bytes))

  pub frame_opened : (f : Frame) (bytes : List ℕ) (r : Result T OpenError) → frame_read bytes ≡ Some (f, []) → Opens f.head f.code f.body head_of code_of held_of r → OpensImage bytes r
  frame_opened f bytes (Ok i) read found = opened_image f bytes (head_of i) (code_of i) (held_of i) read found.0 found.1
  frame_opened f bytes (Err e) read why = lacks_more e (no_layout f bytes read) why

  pub code_opened : (head : Head) (code : Code) (code_part data_part : List ℕ) (r : Result T OpenError) → code_part ≡ code_bytes code → Opens head (code_bytes code) data_part head_of code_of held_of r → Opens head code_part data_part head_of code_of held_of r
  code_opened head code code_part data_part r is found = subst (λ (part : List ℕ). Opens head part data_part head_of code_of held_of r) (sym is) found

module _ {T : Type 0} (view : T → List Ty) (columns : List Column) (typed : Option (List Ty)) where
  -- whether the types of a code are those of the columns, by its types
  pub types_checked : (types : Result T TypeError) (r : Result (Unit {0}) OpenError) → Gives view ill.Memory (ok_or typed ill.Ill) types → ChecksColumns view columns types r
      → MatchResult r (λ u. has_types (types_of columns) typed ≡ true) (λ e. (e ≡ Memory) ⊎ ((e ≡ NotImage) × (has_types (types_of columns) typed ≡ false)))
  types_checked (Ok found) (Ok u) due same = ap (has_types (types_of columns)) (some-from_ok typed (view found) due) ∙ same
  types_checked (Ok found) (Err e) due why = lacks_more e (λ other. ap (has_types (types_of columns)) (some-from_ok typed (view found) due) ∙ other) why
  types_checked (Err why) (Ok u) due none = absurd none
  types_checked (Err why) (Err e) due refused = lacks_more e (untyped due) refused
    where
      untyped : (why ≡ ill.Memory) ⊎ (ok_or typed ill.Ill ≡ Err why) → why ≡ ill.Ill → has_types (types_of columns) typed ≡ false
      untyped (inl memory) is = absurd cc
      untyped (inr none) is = by_types typed none
        where
          by_types : (t : Option (List Ty)) → ok_or t ill.Ill ≡ Err why → has_types (types_of columns) t ≡ false
          by_types None h = refl
          by_types (Some t) h = absurd cc
