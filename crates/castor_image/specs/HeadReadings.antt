-- Heads of images, read from the front of bytes.
use Rattle.std.specs.Prelude.{ℕ, zero, suc, nat_le, List, [], ◌∷◌, take, drop, length, ◌&&◌, Option, Some, None}
use Rattle.std.specs.Str.{is_utf8}
use Rattle.castor_val.specs.declared.column.Column.{Column}
use Rattle.castor_val.specs.declared.value.Ty.{Ty}
use Rattle.castor_val.specs.declared.value.Ty.TheVariants.{Int, Bool as Truth, Text}
use Rattle.castor_code.specs.Readings.{Read}
use Rattle.castor_code.specs.Steps.{next, when, many, passing}
use Rattle.castor_image.specs.declared.head.Head.{Head}
use Rattle.castor_image.specs.Heads.{is_head_name, are_params, are_head_columns}

abbrev pub byte_read : List ℕ → Read ℕ
byte_read [] = None
byte_read (b ∷ rest) = Some (b, rest)

-- the type of a number
abbrev pub type_of_number : ℕ → Option Ty
type_of_number zero = Some Int
type_of_number (suc zero) = Some Truth
type_of_number (suc (suc zero)) = Some Text
type_of_number (suc (suc (suc n))) = None

-- what a number tells, with the bytes behind it
abbrev pub told : {X : Type 0} → Option X → List ℕ → Read X
told (Some x) rest = Some (x, rest)
told None rest = None

abbrev pub type_read : List ℕ → Read Ty
type_read bs = next (byte_read bs) (λ n rest. told (type_of_number n) rest)

-- so many bytes
abbrev pub bytes_read : ℕ → List ℕ → Read (List ℕ)
bytes_read n bs = when (nat_le n (length bs)) (take n bs, drop n bs)

-- so many bytes of UTF-8
abbrev pub utf8_read : ℕ → List ℕ → Read (List ℕ)
utf8_read n bs = when (nat_le n (length bs) && is_utf8 (take n bs)) (take n bs, drop n bs)

abbrev pub name_read : List ℕ → Read (List ℕ)
name_read bs = next (byte_read bs) (λ n rest. passing is_head_name (utf8_read n) rest)

abbrev pub column_read : List ℕ → Read Column
column_read bs = next (type_read bs) (λ ty rest. next (name_read rest) (λ name more. Some (record { name = name; ty = ty }, more)))

-- columns behind their number
abbrev pub columns_read : List ℕ → Read (List Column)
columns_read bs = next (byte_read bs) (λ n rest. many n column_read rest)

abbrev pub params_read : List ℕ → Read (List Column)
params_read bs = passing are_params columns_read bs

abbrev pub head_columns_read : List ℕ → Read (List Column)
head_columns_read bs = passing are_head_columns columns_read bs

abbrev pub head_read : List ℕ → Read Head
head_read bs = next (params_read bs) (λ ps rest. next (head_columns_read rest) (λ cs more. Some (record { params = ps; columns = cs }, more)))
