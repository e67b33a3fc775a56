-- The marks so far and those of what is left are those of all.
use Rattle.std.proofs.Common.{◌≡◌, drop}
use Rattle.code_of.specs.Parts.{marks_code}
use Rattle.code_emitter.specs.Listing.{listed}
use Rattle.code_stat.proofs.marks.write_marks.Given as goal

abbrev pub invariant-loop-declared : goal.invariant-loop-declared
invariant-loop-declared l = listed l.emitter (marks_code (drop l.declared-index l.declared-items) l.register) ≡ listed l.fn.emitter (marks_code l.names.items l.fn.register)
