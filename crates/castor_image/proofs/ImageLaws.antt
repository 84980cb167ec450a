-- Images: which bytes are one, and that they tell their content.
use Rattle.std.proofs.Common.{◌≡◌, ◌∙◌, ℕ, List, [], ◌++◌, Option, Some, None, length, true, subst, ap, sym, append-nil}
use Rattle.std.proofs.lemmas.Option.{some_pair_parts, none-some}
use Rattle.castor_alg.specs.declared.held.Held.{Held}
use Rattle.castor_code.specs.declared.code.Code.{Code}
use Rattle.castor_code.specs.CodeForms.{code_bytes}
use Rattle.castor_code.specs.Data.{data_of, fits, data_read}
use Rattle.castor_code.proofs.DataLaws.{reads_data, data_is_told}
use Rattle.castor_code.proofs.DecodeLaws.{codes_differ}
use Rattle.castor_image.specs.declared.head.Head.{Head}
use Rattle.castor_image.specs.Frames.{Frame, frame_of, frame_read, IsNoFrame}
use Rattle.castor_image.specs.Images.{Content, ImagesAreTold, IsImageOf, IsNoImage, fits_head, framed, is_length}
use Rattle.castor_image.specs.Heads.{is_head}
use Rattle.castor_image.specs.Opens.{IsLayout}
use Rattle.castor_image.proofs.FrameLaws.{frame_again, frame_taken}

-- the frame of a content
abbrev pub frame_in : Content → Frame
frame_in c = frame_of c.head (code_bytes c.code) (data_of c.code c.held)

-- where bytes begin with an image, its frame is read
pub frame_there : (c : Content) (bytes front rest : List ℕ) → IsImageOf c front → bytes ≡ front ++ rest → frame_read bytes ≡ Some (frame_in c, rest)
frame_there c bytes front rest a is =
    ap frame_read (is ∙ ap (λ xs. xs ++ rest) a.bytes_are)
    ∙ frame_again c.head (code_bytes c.code) (data_of c.code c.held) rest a.content.head a.lengths.code a.lengths.data_part

frame_whole : (c : Content) (bytes : List ℕ) → IsImageOf c bytes → frame_read bytes ≡ Some (frame_in c, [])
frame_whole c bytes a = frame_there c bytes bytes [] a (sym (append-nil bytes))

pub images_are_told : ImagesAreTold
images_are_told c d front rest whole a b is =
    let parts = some_pair_parts _ _ _ _ (sym (frame_there c whole front rest a is) ∙ frame_whole d whole b) in
    let head : c.head ≡ d.head = ap (λ (f : Frame). f.head) parts.0 in
    let code : c.code ≡ d.code = codes_differ c.code d.code a.content.code b.content.code (ap (λ (f : Frame). f.code) parts.0) in
    let same_data : data_of c.code c.held ≡ data_of c.code d.held = ap (λ (f : Frame). f.body) parts.0 ∙ ap (λ (k : Code). data_of k d.held) (sym code) in
    let fine : fits c.code d.held ≡ true = ap (λ (k : Code). fits k d.held) code ∙ b.content.held in
    let held = data_is_told c.code c.held d.held [] [] a.content.held fine (ap (λ xs. xs ++ []) same_data) in
    (λ i. record { head = head i; code = code i; held = held.0 i }, parts.1)

-- what was opened is an image
pub opened_image : (f : Frame) (bytes : List ℕ) (head : Head) (code : Code) (held : Held) → frame_read bytes ≡ Some (f, []) → head ≡ f.head → IsLayout f.head f.code f.body code held → IsImageOf (record { head = head; code = code; held = held }) bytes
opened_image f bytes head code held read same layout =
    let frame = frame_taken bytes [] f read in
    let told = (reads_data code).taken f.body [] held layout.data_is in
    let body : f.body ≡ data_of code held = told.1 ∙ append-nil (data_of code held) in
    record {
      content = record {
        head = ap (λ (h : Head). is_head h) same ∙ frame.head;
        code = layout.formed;
        types = ap (fits_head code) same ∙ layout.typed;
        held = told.0;
      };
      lengths = record {
        code = subst (λ (xs : List ℕ). is_length (length xs)) layout.code_is frame.code;
        data_part = subst (λ (xs : List ℕ). is_length (length xs)) body frame.data_part;
      };
      bytes_are =
          frame.bytes ∙ append-nil (framed f.head f.code f.body)
          ∙ ap (λ (h : Head). framed h f.code f.body) (sym same)
          ∙ ap (λ (xs : List ℕ). framed head xs f.body) layout.code_is
          ∙ ap (λ (xs : List ℕ). framed head (code_bytes code) xs) body;
    }

-- bytes without a frame are no image
pub no_frame : (bytes : List ℕ) → IsNoFrame bytes → IsNoImage bytes
no_frame bytes none c a = none (frame_in c) (frame_whole c bytes a)

-- a frame that holds no layout is no image
pub no_layout : (f : Frame) (bytes : List ℕ) → frame_read bytes ≡ Some (f, []) → ((code : Code) (held : Held) → IsLayout f.head f.code f.body code held → ⊥) → IsNoImage bytes
no_layout f bytes read none c a =
    let same : f ≡ frame_in c = (some_pair_parts _ _ _ _ (sym read ∙ frame_whole c bytes a)).0 in
    none c.code c.held (record {
      formed = a.content.code;
      code_is = ap (λ (g : Frame). g.code) same;
      typed = ap (λ (g : Frame). fits_head c.code g.head) same ∙ a.content.types;
      data_is = ap (λ (g : Frame). data_read c.code g.body) same ∙ ap (data_read c.code) (sym (append-nil (data_of c.code c.held))) ∙ (reads_data c.code).again c.held [] a.content.held;
    })

-- the frame that a valid image has
pub valid_frame : (f : Frame) (bytes : List ℕ) → frame_read bytes ≡ Some (f, []) → is_head f.head ≡ true
valid_frame f bytes read = (frame_taken bytes [] f read).head

-- what is read doesn't end the bytes
module _ {X : Type 0} (due : Option (X × List ℕ)) where
  pub not_there : due ≡ None → (y : X) → due ≡ Some (y, []) → ⊥
  not_there is y other = none-some _ (sym is ∙ other)

  pub not_at_end : (x : X) (rest : List ℕ) → due ≡ Some (x, rest) → (rest ≡ [] → ⊥) → (y : X) → due ≡ Some (y, []) → ⊥
  not_at_end x rest is more y other = more (some_pair_parts _ _ _ _ (sym is ∙ other)).1
