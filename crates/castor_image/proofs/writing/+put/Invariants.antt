use Rattle.std.proofs.Common.{◌≡◌, drop, take, length, map}
use Rattle.std.specs.List.{range_with_len}
use Rattle.castor_code.specs.Data.{format, writers}
use Rattle.castor_code.specs.Directories.{in_buckets, size}
use Rattle.castor_code.specs.Pieces.{one_after_other, side_by_side}
use Rattle.castor_dir.specs.Buckets.{places}
use Rattle.castor_image.specs.Puts.{entries_at, entry_by}
use Rattle.castor_image.proofs.PieceLaws.{Left}
use Rattle.castor_image.proofs.RunLaws.{Front}
use Rattle.castor_image.proofs.writing.+put.Given as goal

abbrev pub invariant-index::put_buckets-loop-bucket : goal.invariant-index::put_buckets-loop-bucket
invariant-index::put_buckets-loop-bucket l =
    Front (one_after_other (entry_by l.key l.kid) (in_buckets l.bucket l.entries)) l.out.items l.fn.out.items
    × (l.starts.items ≡ map (λ b. size (entry_by l.key l.kid) (in_buckets b l.entries)) (range_with_len 0 l.bucket))
    × (l.first ≡ length l.fn.out.items)

abbrev pub invariant-index::put_entries-loop-entry : goal.invariant-index::put_entries-loop-entry
invariant-index::put_entries-loop-entry l =
    Front (one_after_other (entry_by l.key l.kid) (take l.entry-index l.entries)) l.out.items l.fn.out.items
    × (l.starts.items ≡ map (λ i. size (entry_by l.key l.kid) (take i l.entries)) (places l.entry-index))
    × (l.first ≡ length l.fn.out.items)

abbrev pub invariant-index::put_places-loop-place : goal.invariant-index::put_places-loop-place
invariant-index::put_places-loop-place l = Left (one_after_other (entry_by l.key l.kid) (entries_at l.entries (drop l.place-index l.places))) (one_after_other (entry_by l.key l.kid) (entries_at l.entries l.places)) l.out.items l.fn.out.items

abbrev pub invariant-put_rows-loop-row : goal.invariant-put_rows-loop-row
invariant-put_rows-loop-row l = Left (one_after_other (format l.kid).write (drop l.row-index l.rows)) (one_after_other (format l.kid).write l.rows) l.out.items l.fn.out.items

abbrev pub invariant-put_side_by_side-loop-at : goal.invariant-put_side_by_side-loop-at
invariant-put_side_by_side-loop-at l = Left (side_by_side (writers (map format (drop l.at l.kids))) (drop l.at l.parts)) (side_by_side (writers (map format l.kids)) l.parts) l.out.items l.fn.out.items
