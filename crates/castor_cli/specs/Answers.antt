-- What an image answers to an input.
use Rattle.std.specs.Prelude.{ℕ, List, Option, Some, None, flat_map}
use Rattle.castor_val.specs.declared.row.Row.{Row}
use Rattle.castor_alg.specs.Scopes.{unbound}
use Rattle.castor_code.specs.LayoutMeaning.{layout_meaning}
use Rattle.castor_image.specs.declared.image.Image.{Image}
use Rattle.castor_image.specs.Images.{Content}
use Rattle.castor_load.specs.Lines.{line_values}
use Rattle.castor_cli.specs.Lines.{lines_of}
use Rattle.castor_cli.specs.Replies.{bad_parameters, reply_text}

-- the reply to the parameters of a line: what the stored data means under its code and them
abbrev pub reply_to : Content → Option Row → List ℕ
reply_to x None = bad_parameters
reply_to x (Some values) = reply_text x.head.columns (layout_meaning x.code x.held unbound values)

-- the reply to a line
abbrev pub line_text : Content → List ℕ → List ℕ
line_text x line = reply_to x (line_values x.head.params line)

-- the replies to the lines of an input, in order
abbrev pub answers : Content → List ℕ → List ℕ
answers x input = flat_map (line_text x) (lines_of input)

-- what an opened image holds
abbrev pub content_in : Image → Content
content_in i = record { head = i.head; code = i.code; held = i.held }
