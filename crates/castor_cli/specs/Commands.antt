-- What the words after the program's name ask for.
use Rattle.std.specs.Prelude.{ℕ, ◌==◌, List, [], ◌∷◌, Bool, true, false, not, ◌&&◌, ◌||◌, nat_le, length, codes, Option, Some, None, if◌then◌else◌, slice_index_or}
use Rattle.std.specs.List.{list_all}
use Rattle.std.specs.Str.{bytes_eq}
use Rattle.castor_cli.specs.declared.command.Command.{Command}
use Rattle.castor_cli.specs.declared.command.Command.TheVariants.{Answer, Build, Ask, Show, Code, Sample}

abbrev pub is_digit : ℕ → Bool
is_digit c = nat_le 48 c && nat_le c 57

-- no digit stands after a zero in front
abbrev pub has_no_leading_zero : List ℕ → Bool
has_no_leading_zero [] = false
has_no_leading_zero (c ∷ []) = true
has_no_leading_zero (c ∷ d ∷ ds) = not (c == 48)

-- a number of rows for `sample`: 0 to 100,000 in decimal, without sign or leading zeros
abbrev pub is_row_count : List ℕ → Bool
is_row_count word = (has_no_leading_zero word && list_all is_digit word) && (nat_le (length word) 5 || bytes_eq word (codes "100000"))

-- a command of one name
abbrev pub of_one : List ℕ → List ℕ → Option Command
of_one verb word =
    if bytes_eq verb (codes "ask") then Some Ask
    else if bytes_eq verb (codes "code") then Some Code
    else if bytes_eq verb (codes "sample") && is_row_count word then Some Sample
    else None

-- a command of two names
abbrev pub of_two : List ℕ → Option Command
of_two verb =
    if bytes_eq verb (codes "answer") then Some Answer
    else if bytes_eq verb (codes "show") then Some Show
    else None

-- a command of three names
abbrev pub of_three : List ℕ → Option Command
of_three verb = if bytes_eq verb (codes "build") then Some Build else None

-- the command that the words are a form of
abbrev pub command_of : List (List ℕ) → Option Command
command_of [] = None
command_of (verb ∷ []) = None
command_of (verb ∷ a ∷ []) = of_one verb a
command_of (verb ∷ a ∷ b ∷ []) = of_two verb
command_of (verb ∷ a ∷ b ∷ c ∷ []) = of_three verb
command_of (verb ∷ a ∷ b ∷ c ∷ d ∷ more) = None

-- a word, and no bytes where there are fewer
abbrev pub word : List (List ℕ) → ℕ → List ℕ
word words i = slice_index_or words i []

-- the name of the image among the words of a command
abbrev pub image_name : Option Command → List (List ℕ) → List ℕ
image_name (Some Ask) words = word words 1
image_name command words = word words 3

-- the names of files
pub record Names : Type 0 where
  pub query : List ℕ
  pub script : List ℕ
  pub image : List ℕ

-- the names that words give the files of a command
abbrev pub names_in : List (List ℕ) → Names
names_in words = record { query = word words 1; script = word words 2; image = image_name (command_of words) words }
