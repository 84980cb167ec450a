-- What is printed line by line.
use Rattle.std.proofs.Common.{◌≡◌, ℕ, List, [], ◌∷◌, ◌++◌, Option, refl, sym, ◌∙◌, ap, append_assoc}
use Rattle.std.proofs.lemmas.List.{append-nil}
use Rattle.std.specs.Io.KnownBytes.{Appends}
use Rattle.castor_base.specs.Moves.{AppendsPrefix}
use Rattle.castor_base.proofs.Known.{appends_more}
use Rattle.castor_image.specs.Images.{Content}
use Rattle.castor_cli.specs.Answers.{answers, line_text}
use Rattle.castor_cli.specs.Lines.{lines_of}

pub answers-cut : (p : Content) (text line tail : List ℕ) → lines_of text ≡ line ∷ lines_of tail → answers p text ≡ line_text p line ++ answers p tail
answers-cut p text line tail e = rw e refl

-- one more reply went out
pub went_on : (p : Content) (text rest line tail done : List ℕ) → answers p text ≡ done ++ answers p rest → lines_of rest ≡ line ∷ lines_of tail
    → answers p text ≡ (done ++ line_text p line) ++ answers p tail
went_on p text rest line tail done e cut = e ∙ ap (λ w. done ++ w) (answers-cut p rest line tail cut) ∙ sym (append_assoc done (line_text p line) (answers p tail))

-- a prefix of a reply went out
pub went_partly : (a b d : Option (List ℕ)) (p : Content) (text rest line tail done reply : List ℕ) → answers p text ≡ done ++ answers p rest → lines_of rest ≡ line ∷ lines_of tail
    → Appends a b done → reply ≡ line_text p line → AppendsPrefix b d reply → AppendsPrefix a d (answers p text)
went_partly a b d p text rest line tail done reply e cut before same (prefix, (more, split), q) = (
  done ++ prefix,
  (
    more ++ answers p tail,
    went_on p text rest line tail done e cut ∙ ap (λ w. (done ++ w) ++ answers p tail) (sym same ∙ split)
        ∙ ap (λ w. w ++ answers p tail) (sym (append_assoc done prefix more)) ∙ append_assoc (done ++ prefix) more (answers p tail),
  ),
  appends_more a b d done prefix (done ++ prefix) before q refl,
)

-- the replies that went out are a prefix of all
pub went_so_far : (a b : Option (List ℕ)) (p : Content) (text rest done : List ℕ) → answers p text ≡ done ++ answers p rest → Appends a b done → AppendsPrefix a b (answers p text)
went_so_far a b p text rest done e before = (done, (answers p rest, e), before)

-- all went out
pub went_all : (a b : Option (List ℕ)) (p : Content) (text rest done : List ℕ) → answers p text ≡ done ++ answers p rest → Appends a b done → rest ≡ [] → Appends a b (answers p text)
unfolding lines_of
went_all a b p text rest done e before none = let whole : answers p text ≡ done = rw (none, append-nil) at e in rw whole before
