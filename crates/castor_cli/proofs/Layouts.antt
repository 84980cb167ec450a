-- That a head, a layout and what is held make the image that is due.
use Rattle.std.proofs.Common.{◌≡◌, ◌≤◌, ◌+◌, ◌∙◌, ◌++◌, ℕ, List, length, Bool, true, false, if◌then◌else◌, Option, Some, None, Result, Ok, Err, refl, sym, ap, subst, arith}
use Rattle.std.specs.Prelude.{nat_lt}
use Rattle.std.proofs.lemmas.Bool.{and_parts, le-leb, leb-true, ltb-false}
use Rattle.std.proofs.lemmas.List.{length-append}
use Rattle.castor_val.specs.Limits.{most_file_bytes}
use Rattle.castor_val.specs.declared.value.Ty.{Ty}
use Rattle.castor_alg.specs.declared.held.Held.{Held}
use Rattle.castor_alg.specs.declared.rel.Rel.{Rel}
use Rattle.castor_alg.specs.FreshScope.{fresh_scope}
use Rattle.castor_alg.specs.Sizes.{depth, nodes}
use Rattle.castor_alg.specs.Typing.{column_types}
use Rattle.castor_code.specs.CodeForms.{code_bytes}
use Rattle.castor_code.specs.Data.{data_of}
use Rattle.castor_image.specs.declared.head.Head.{Head}
use Rattle.castor_image.specs.Heads.{head_bytes, is_head}
use Rattle.castor_image.specs.Images.{Content, HasLengths, fits_head, framed, image_of, is_length, length_field, magic}
use Rattle.castor_ltype.specs.declared.generation.Layout.{Layout}
use Rattle.castor_schema.specs.declared.checked.Checked.{Checked}
use Rattle.castor_val.specs.Columns.{types_of}
use Rattle.castor_schema.specs.WellTyped.{IsWellTyped, query_context}
use Rattle.castor_script.specs.declared.step_error.StepError.TheVariants as step
use Rattle.castor_script.specs.Finish.{finished_from, is_within_limits, limited}
use Rattle.castor_cli.specs.declared.status.Status.{Status}
use Rattle.castor_cli.specs.Building.{BuildsImage, content_of, head_of, if_small}
use Rattle.castor_cli.specs.Laying.{CanBeWritten, IsFinal, IsHeldFor, IsLayoutFor}
use Rattle.castor_cli.proofs.Contexts.{head_fits}
use Rattle.castor_cli.proofs.Valid.{head_valid}

six_parts : (a b c d e f : List ℕ) → length (a ++ (b ++ (c ++ (d ++ (e ++ f))))) ≡ length a + (length b + (length c + (length d + (length e + length f))))
six_parts a b c d e f =
    length-append a _ ∙ ap (λ (n : ℕ). length a + n) (length-append b _ ∙ ap (λ (n : ℕ). length b + n) (length-append c _ ∙ ap (λ (n : ℕ). length c + n) (length-append d _ ∙ ap (λ (n : ℕ). length d + n) (length-append e f))))

-- the parts of a small image are small
parts_small : (head : Head) (code stored : List ℕ) → length (framed head code stored) ≤ most_file_bytes → (length code ≤ most_file_bytes) × (length stored ≤ most_file_bytes)
parts_small head code stored small =
    let whole = six_parts magic (head_bytes head) (length_field (length code)) (length_field (length stored)) code stored in
    (omega (arith, whole, small), omega (arith, whole, small))

length_fits : (n : ℕ) → n ≤ most_file_bytes → is_length n
length_fits n small = le-leb _ _ (omega (arith, small))

has_lengths : (head : Head) (x : Content) → length (image_of x.head x.code x.held) ≤ most_file_bytes → HasLengths x
has_lengths head x small =
    let parts = parts_small x.head (code_bytes x.code) (data_of x.code x.held) small in
    record { code = length_fits _ parts.0; data_part = length_fits _ parts.1 }

-- a layout that was found small was written
pub small_image : (head : Head) (l : Layout) (held : Held) (bytes : List ℕ) → CanBeWritten head l held
    → ((stored : List ℕ) → length stored ≡ l.size → false ≡ nat_lt most_file_bytes (length (framed head (code_bytes l.code) stored)))
    → bytes ≡ image_of head l.code held → BuildsImage (if_small (record { head = head; code = l.code; held = held })) (Ok bytes)
small_image head l held bytes can small is =
    let x : Content = record { head = head; code = l.code; held = held } in
    let fits : nat_lt most_file_bytes (length (image_of head l.code held)) ≡ false = sym (small (data_of l.code held) (sym can.size)) in (
      x,
      rw fits refl,
      record {
        content = record { head = can.valid; code = can.formed; types = can.typed; held = can.fitting };
        lengths = has_lengths head x (ltb-false _ _ fits);
        bytes_are = is;
      },
    )

-- ---- a final query

abbrev IsWithin : Rel → Type 0
IsWithin q = (nodes q ≤ 4096) × (depth q ≤ 64)

limited_within : (made : Rel × ℕ) (q : Rel) → limited made ≡ Ok q → IsWithin q
limited_within made q is = by (is_within_limits made) refl is
  where
    by : (b : Bool) → is_within_limits made ≡ b → (if b then Ok made.0 else Err step.TooLarge) ≡ Ok q → IsWithin q
    by true within there =
        let same : made.0 ≡ q = cc there in
        let sizes = and_parts _ _ (and_parts _ _ within).1 in
        subst IsWithin same (leb-true _ _ sizes.0, leb-true _ _ sizes.1)
    by false within there = absurd (cc there)

finished_within : (tables : List (List Ty)) (q final : Rel) (fresh : Option ℕ) → finished_from tables q fresh ≡ Ok final → IsWithin final
finished_within tables q final None is = absurd (cc is)
finished_within tables q final (Some fresh) is = limited_within _ final is

-- the column types of a final query
final_types : (c : Checked) (final : Rel) → IsWellTyped c → IsFinal c final → column_types final (query_context c) ≡ Some (types_of c.columns)
final_types c final typed made = made.same.same_types ∙ typed

-- the head of a checked query and a layout of what is held for its final query make an image
pub can_be_written : (c : Checked) (final : Rel) (held : Held) (head : Head) (l : Layout) → IsHeldFor c final held → head ≡ head_of c → IsLayoutFor final (query_context c) held l → CanBeWritten head l held
can_be_written c final held head l h same laid =
    let types = final_types c final h.sound.typed h.final_is in
    let within = finished_within (query_context c).tables c.query final (fresh_scope c.query) h.final_is.finished in
    record {
      valid = ap is_head same ∙ head_valid c h.sound.limits h.sound.named;
      formed = laid.formed h.staged (types_of c.columns) types within.0 within.1;
      typed = ap (fits_head l.code) same ∙ head_fits c l.code (laid.typed h.staged (types_of c.columns) types);
      fitting = laid.fits h.staged (types_of c.columns) types h.tables h.fit h.held_is;
      size = laid.size;
    }

-- the image of a layout is the one that is due
pub image_due : (c : Checked) (final : Rel) (held : Held) (head : Head) (l : Layout) (r : Result (List ℕ) Status) → head ≡ head_of c → IsLayoutFor final (query_context c) held l
    → BuildsImage (if_small (record { head = head; code = l.code; held = held })) r → BuildsImage (if_small (content_of c final held)) r
image_due c final held head l r same laid built =
    subst (λ (x : Content). BuildsImage (if_small x) r) (λ i. record { head = same i; code = laid.code i; held = held }) built
