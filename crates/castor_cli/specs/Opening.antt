-- The image that a file is, or why it is none.
use Rattle.std.specs.Prelude.{ℕ, List, Result, Ok, Err}
use Rattle.castor_base.specs.Files.{Files}
use Rattle.castor_val.specs.Limits.{most_file_bytes}
use Rattle.castor_image.specs.Images.{Content, IsImageOf, IsNoImage}
use Rattle.castor_cli.specs.declared.status.Place.TheVariants as place
use Rattle.castor_cli.specs.declared.status.Status.{Status}
use Rattle.castor_cli.specs.declared.status.Status.TheVariants as status
use Rattle.castor_cli.specs.Preparation.{Broken, Says, image_fails, readable}

-- what the bytes are the image of, or that they are none
abbrev pub IsImageIn : List ℕ → Result Content Status → Type 0
IsImageIn bytes (Ok x) = IsImageOf x bytes
IsImageIn bytes (Err status.Image) = IsNoImage bytes
IsImageIn bytes (Err s) = ⊥

-- the image of this name, read and then opened: what it holds, or the first refusal
abbrev pub IsOpened : Broken → Files → List ℕ → Result Content Status → Type 0
IsOpened broken files image r = Says (readable (image_fails broken) place.Image most_file_bytes (files image)) IsImageIn r
