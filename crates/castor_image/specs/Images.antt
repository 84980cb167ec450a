-- Images: what they hold, and their bytes.
use Rattle.std.specs.Prelude.{◌≡◌, ℕ, ◌+◌, nat_le, List, [], ◌∷◌, ◌++◌, length, Bool, true, false, Option, Some, None}
use Rattle.castor_val.specs.Columns.{types_of}
use Rattle.castor_val.specs.declared.value.Ty.{Ty}
use Rattle.castor_alg.specs.Typing.{same_types}
use Rattle.castor_alg.specs.declared.context.Context.{Context}
use Rattle.castor_alg.specs.declared.held.Held.{Held}
use Rattle.castor_code.specs.declared.code.Code.{Code}
use Rattle.castor_code.specs.CodeForms.{code_bytes, is_well_formed}
use Rattle.castor_code.specs.CodeTyping.{code_types}
use Rattle.castor_code.specs.Data.{fits, data_of}
use Rattle.castor_fixed.specs.Fields.{field}
use Rattle.castor_image.specs.declared.head.Head.{Head}
use Rattle.castor_image.specs.Heads.{head_bytes, is_head}

-- what an image holds
pub record Content : Type 0 where
  pub head : Head
  pub code : Code
  pub held : Held

-- CASTIMG1
abbrev pub magic : List ℕ
magic = 67 ∷ 65 ∷ 83 ∷ 84 ∷ 73 ∷ 77 ∷ 71 ∷ 49 ∷ []

-- a length in 8 bytes
abbrev pub length_field : ℕ → List ℕ
length_field n = field 18446744073709551615 n

-- a code and data behind their lengths
abbrev pub sections : List ℕ → List ℕ → List ℕ
sections code data_part = length_field (length code) ++ (length_field (length data_part) ++ (code ++ data_part))

-- the bytes of a code and of data behind a head
abbrev pub framed : Head → List ℕ → List ℕ → List ℕ
framed head code data_part = magic ++ (head_bytes head ++ sections code data_part)

-- an image of any data has so many bytes besides
abbrev pub IsOverhead : Head → List ℕ → ℕ → Type 0
IsOverhead head code n = (data_part : List ℕ) → length (framed head code data_part) ≡ n + length data_part

-- the bytes of an image
abbrev pub image_of : Head → Code → Held → List ℕ
image_of head code held = framed head (code_bytes code) (data_of code held)

-- the context of the whole code: the parameters alone
abbrev pub head_context : Head → Context
head_context head = record { tables = []; scopes = []; params = types_of head.params }

-- there are types, and they are these
abbrev pub has_types : List Ty → Option (List Ty) → Bool
has_types due None = false
has_types due (Some types) = same_types types due

-- the code is well typed with the parameters of the head, and gives its columns
abbrev pub fits_head : Code → Head → Bool
fits_head code head = has_types (types_of head.columns) (code_types code (head_context head))

-- a length of 64 bits
abbrev pub is_length : ℕ → Type 0
is_length n = nat_le n 18446744073709551615 ≡ true

-- a valid head, a well-formed code that fits it, and held data that fits the code
pub record IsContent (c : Content) : Type 0 where
  pub head : is_head c.head ≡ true
  pub code : is_well_formed c.code ≡ true
  pub types : fits_head c.code c.head ≡ true
  pub held : fits c.code c.held ≡ true

-- the lengths of the code and of the data have their fields
pub record HasLengths (c : Content) : Type 0 where
  pub code : is_length (length (code_bytes c.code))
  pub data_part : is_length (length (data_of c.code c.held))

-- the bytes are the image of these
pub record IsImageOf (c : Content) (bytes : List ℕ) : Type 0 where
  pub content : IsContent c
  pub lengths : HasLengths c
  pub bytes_are : bytes ≡ image_of c.head c.code c.held

-- the bytes are no image
abbrev pub IsNoImage : List ℕ → Type 0
IsNoImage bytes = (c : Content) → IsImageOf c bytes → ⊥

-- bytes are the image of one content at most, and no proper front part of an image is an image
abbrev pub ImagesAreTold : Type 0
ImagesAreTold = (c d : Content) (front rest whole : List ℕ) → IsImageOf c front → IsImageOf d whole → whole ≡ front ++ rest → (c ≡ d) × (rest ≡ [])
