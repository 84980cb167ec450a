-- Data tells what is held, and where it ends.
use Rattle.std.proofs.Common.{◌≡◌, ◌∙◌, ℤ, List, [], ◌∷◌, map, ap, sym, refl, subst}
use Rattle.std.proofs.lemmas.Option.{some_pair_parts}
use Rattle.castor_code.specs.declared.code.Range.{Range}
use Rattle.castor_code.specs.declared.code.Code.{Code}
use Rattle.castor_code.specs.Shapes.{leaf_of, parts_of, rows_of, keyed_of, inner_of}
use Rattle.castor_code.specs.Directories.{entry_piece, hash_piece, ord_piece}
use Rattle.castor_code.specs.Readings.{entry_read, hash_offsets, ord_offsets}
use Rattle.castor_code.specs.Data.{Format, writers, readers, int_format, bool_format, text_format, parts_format, inner_format, list_format, hash_format, ord_format, format_step, format, data_read, ReadsData, DataIsTold}
use Rattle.castor_code.proofs.CodeInduction.{With, codes, code_induction, fold-Int, fold-Bool, fold-Text, fold-Cross, fold-Concat, fold-List, fold-Hash, fold-Ord, fold-Select, fold-Filter, fold-Dep, fold-Group, fold-Order, fold-Dedup}
use Rattle.castor_code.proofs.ValueLaws.{int_again, int_taken, bool_again, bool_taken, text_again, text_taken}
use Rattle.castor_code.proofs.PartLaws.{Lawful, AllLawful, none, more, parts_again, parts_taken, inner_again, inner_taken, list_again, list_taken, entry_again}
use Rattle.castor_code.proofs.IndexLaws.{index_taken, hash_again, ord_again}

int_lawful : (lo hi : ℤ) → Lawful (int_format lo hi)
int_lawful lo hi = record { again = λ h rest f. int_again lo hi h rest (leaf_of h) refl f; taken = λ bs rest h is. int_taken lo hi bs rest h is }

bool_lawful : Lawful bool_format
bool_lawful = record { again = λ h rest f. bool_again h rest (leaf_of h) refl f; taken = λ bs rest h is. bool_taken bs rest h is }

text_lawful : (lengths : Range) → Lawful (text_format lengths)
text_lawful lengths = record { again = λ h rest f. text_again lengths h rest (leaf_of h) refl f; taken = λ bs rest h is. text_taken lengths bs rest h is }

parts_lawful : (fs : List Format) → AllLawful fs → Lawful (parts_format fs)
parts_lawful fs laws = record { again = λ h rest f. parts_again fs laws h rest (parts_of h) refl f; taken = λ bs rest h is. parts_taken fs laws bs rest h is }

inner_lawful : (f : Format) → Lawful f → Lawful (inner_format f)
inner_lawful f law = record { again = λ h rest ok. inner_again f law h rest (inner_of h) refl ok; taken = λ bs rest h is. inner_taken f law bs rest h is }

list_lawful : (count body : Range) (f : Format) → Lawful f → Lawful (list_format count body f)
list_lawful count body f law = record { again = λ h rest ok. list_again count body f law h rest (rows_of h) refl ok; taken = λ bs rest h is. list_taken count body f law bs rest h is }

hash_lawful : (count body : Range) (fs : List Format) (f : Format) → AllLawful fs → Lawful f → Lawful (hash_format count body fs f)
hash_lawful count body fs f laws law = record {
  again = λ h rest ok. hash_again count body (entry_piece (writers fs) f.write) (entry_read (readers fs) f.read) (entry_again fs f laws law) h rest (keyed_of h) refl ok;
  taken = λ bs rest h is. index_taken count body hash_offsets (entry_read (readers fs) f.read) (λ g. hash_piece count body (entry_piece (writers fs) f.write) (keyed_of g)) bs rest h is;
}

ord_lawful : (count body : Range) (fs : List Format) (f : Format) → AllLawful fs → Lawful f → Lawful (ord_format count body fs f)
ord_lawful count body fs f laws law = record {
  again = λ h rest ok. ord_again count body (entry_piece (writers fs) f.write) (entry_read (readers fs) f.read) (entry_again fs f laws law) h rest (keyed_of h) refl ok;
  taken = λ bs rest h is. index_taken count body ord_offsets (entry_read (readers fs) f.read) (λ g. ord_piece count body (entry_piece (writers fs) f.write) (keyed_of g)) bs rest h is;
}

abbrev Known : Code → Type 0
Known c = Lawful (format c)

all_known : (cs : List (With Known)) → AllLawful (map format (codes cs))
all_known [] = none
all_known (c ∷ cs) = more c.1 (all_known cs)

moved : (f g : Format) → f ≡ g → Lawful g → Lawful f
moved f g is law = subst Lawful (sym is) law

pub lawful : (c : Code) → Known c
lawful = code_induction Known (record {
  int = λ lo hi. moved _ _ (fold-Int Format format_step lo hi) (int_lawful lo hi);
  bool = moved _ _ (fold-Bool Format format_step) bool_lawful;
  text = λ min max. moved _ _ (fold-Text Format format_step min max) (text_lawful (record { lo = min; hi = max }));
  cross = λ cs. moved _ _ (fold-Cross Format format_step (codes cs)) (parts_lawful (map format (codes cs)) (all_known cs));
  concat = λ cs. moved _ _ (fold-Concat Format format_step (codes cs)) (parts_lawful (map format (codes cs)) (all_known cs));
  list = λ count body c law. moved _ _ (fold-List Format format_step count body c) (list_lawful count body (format c) law);
  hash = λ count body key c es law. moved _ _ (fold-Hash Format format_step count body (codes key) c es) (hash_lawful count body (map format (codes key)) (format c) (all_known key) law);
  ordered = λ count body key c lo hi first law. moved _ _ (fold-Ord Format format_step count body key c lo hi) (ord_lawful count body (format key ∷ []) (format c) (more first none) law);
  select = λ es c law. moved _ _ (fold-Select Format format_step es c) (inner_lawful (format c) law);
  filter = λ e c law. moved _ _ (fold-Filter Format format_step e c) (inner_lawful (format c) law);
  dep = λ j c d first second. moved _ _ (fold-Dep Format format_step j c d) (parts_lawful (format c ∷ format d ∷ []) (more first (more second none)));
  group = λ ks aggs c law. moved _ _ (fold-Group Format format_step ks aggs c) (inner_lawful (format c) law);
  order = λ ks c law. moved _ _ (fold-Order Format format_step ks c) (inner_lawful (format c) law);
  dedup = λ c law. moved _ _ (fold-Dedup Format format_step c) (inner_lawful (format c) law);
})

pub reads_data : (c : Code) → ReadsData c
reads_data c = record { again = λ h rest ok. (lawful c).again h rest ok; taken = λ bytes rest h is. (lawful c).taken bytes rest h is }

-- data tells what is held, and where it ends
pub data_is_told : (c : Code) → DataIsTold c
data_is_told c h g rest after ok fine is =
    let parts = some_pair_parts _ _ _ _ (sym ((lawful c).again h rest ok) ∙ ap (data_read c) is ∙ (lawful c).again g after fine) in
    (parts.0, parts.1)
