-- The form of parts of codes: their bytes, and what decides whether they are well formed.
use Rattle.std.specs.Prelude.{ℕ, ◌+◌, max, ℤ, nat_le, List, [], ◌∷◌, ◌++◌, map, length, Bool, true, ◌&&◌, if◌then◌else◌}
use Rattle.std.specs.Int.{cast_unsigned, w64}
use Rattle.std.specs.Str.{is_utf8}
use Rattle.castor_val.specs.Values.{is_int}
use Rattle.castor_fixed.specs.Fields.{field}

-- whether a part is well formed by itself, its bytes, the nodes in it, and its depth
pub record Form : Type 0 where
  pub sound : Bool
  pub bytes : List ℕ
  pub nodes : ℕ
  pub depth : ℕ

-- bytes that are no node, where the condition holds
abbrev pub plain : Bool → List ℕ → Form
plain condition bytes = record { sound = condition; bytes = bytes; nodes = 0; depth = 0 }

-- one part, and then the other
abbrev pub then_form : Form → Form → Form
then_form f g = record { sound = f.sound && g.sound; bytes = f.bytes ++ g.bytes; nodes = f.nodes + g.nodes; depth = max f.depth g.depth }

-- one part after the other
abbrev pub in_turn : List Form → Form
in_turn [] = plain true []
in_turn (f ∷ fs) = then_form f (in_turn fs)

-- the part, where a condition holds
abbrev pub only_if : Bool → Form → Form
only_if condition f = record { sound = condition && f.sound; bytes = f.bytes; nodes = f.nodes; depth = f.depth }

-- a number from 0 to most, in as many bytes as most needs, the least first
abbrev pub number_form : ℕ → ℕ → Form
number_form most n = plain (nat_le n most) (field most n)

abbrev pub u8_form : ℕ → Form
u8_form n = number_form 255 n

abbrev pub u16_form : ℕ → Form
u16_form n = number_form 65535 n

abbrev pub u32_form : ℕ → Form
u32_form n = number_form 4294967295 n

abbrev pub u64_form : ℕ → Form
u64_form n = number_form 18446744073709551615 n

-- an int in 8 bytes of two's complement, the least first
abbrev pub int_form : ℤ → Form
int_form z = plain (is_int z) (field 18446744073709551615 (cast_unsigned w64 z))

-- a bool as one byte, 0 or 1
abbrev pub bool_form : Bool → Form
bool_form b = u8_form (if b then 1 else 0)

-- a text: its length, then its bytes of UTF-8
abbrev pub text_form : List ℕ → Form
text_form t = then_form (u16_form (length t)) (plain (is_utf8 t) t)

-- a node: its tag, then its parts
abbrev pub node : ℕ → Form → Form
node tag parts = record { sound = parts.sound; bytes = field 255 tag ++ parts.bytes; nodes = 1 + parts.nodes; depth = 1 + parts.depth }

-- a list behind a number of 16 bits that tells its length
abbrev pub list_form : {X : Type 0} → (X → Form) → List X → Form
list_form form xs = then_form (u16_form (length xs)) (in_turn (map form xs))
