-- The frame of an image, read from bytes: its head, the bytes of its code, and the bytes of its data.
use Rattle.std.specs.Prelude.{◌≡◌, ℕ, List, [], Some}
use Rattle.std.specs.Str.{bytes_eq}
use Rattle.castor_alg.specs.declared.held.Held.{Held}
use Rattle.castor_code.specs.declared.code.Code.{Code}
use Rattle.castor_code.specs.Data.{data_read}
use Rattle.castor_code.specs.Readings.{Read}
use Rattle.castor_code.specs.Steps.{next, when}
use Rattle.castor_fixed.specs.Fields.{number}
use Rattle.castor_image.specs.declared.head.Head.{Head}
use Rattle.castor_image.specs.HeadReadings.{bytes_read, head_read}
use Rattle.castor_image.specs.Images.{magic}

-- the first eight bytes
abbrev pub magic_read : List ℕ → Read (List ℕ)
magic_read bs = next (bytes_read 8 bs) (λ front rest. when (bytes_eq front magic) (front, rest))

abbrev pub length_read : List ℕ → Read ℕ
length_read bs = number 18446744073709551615 bs

-- a head, the bytes of a code, and the bytes of data
pub record Frame : Type 0 where
  pub head : Head
  pub code : List ℕ
  pub body : List ℕ

abbrev pub frame_of : Head → List ℕ → List ℕ → Frame
frame_of head code body = record { head = head; code = code; body = body }

-- the code and the data, of these lengths, behind a head
abbrev pub sections_read : Head → ℕ → ℕ → List ℕ → Read Frame
sections_read head code_length data_length bs =
    next (bytes_read code_length bs) (λ code rest. next (bytes_read data_length rest) (λ body more. Some (frame_of head code body, more)))

abbrev pub behind_magic : List ℕ → Read Frame
behind_magic bs = next (head_read bs) (λ head a. next (length_read a) (λ m b. next (length_read b) (λ n c. sections_read head m n c)))

-- the frame, with the bytes behind it
abbrev pub frame_read : List ℕ → Read Frame
frame_read bs = next (magic_read bs) (λ front rest. behind_magic rest)

-- the bytes are no frame
abbrev pub IsNoFrame : List ℕ → Type 0
IsNoFrame bs = (f : Frame) → frame_read bs ≡ Some (f, []) → ⊥

-- the bytes are no data of the code
abbrev pub IsNoData : Code → List ℕ → Type 0
IsNoData code bs = (h : Held) → data_read code bs ≡ Some (h, []) → ⊥
