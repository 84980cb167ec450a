use Rattle.std.proofs.Common.{◌≡◌, ◌++◌, take}
use Rattle.castor_code.specs.Directories.{offset_fields}
use Rattle.castor_image.proofs.writing.numbers.put_offsets.Given as goal

abbrev pub invariant-loop-offset : goal.invariant-loop-offset
invariant-loop-offset l = l.out.items ≡ l.fn.out.items ++ offset_fields l.body (take l.offset-index l.offsets)
