use Rattle.std.proofs.Common.{◌≡◌, ℕ, ◌≤◌, ◌-◌, length, Ok, Err, rules, refl}
use Rattle.code_core.specs.Prototype.{Prototype}
use Rattle.chunk_format.specs.Reading.{read_whole}
use Rattle.chunk_format.proofs.Chunks.{exact_whole, shorter_by, begins_with, only_by, same_fault, pair_by, says_at}
use Rattle.chunk_format.proofs.chunk.read_function.Goals as goal

pub returns-in-Err-clause-only : goal.returns-in-Err-clause-only
returns-in-Err-clause-only c proto n b =
    let says = says_at read_whole c.new-input.result c.args.bytes.now c.read_whole.new.input (Err c.in-Err.fault) c.new-input.ensures c.in-Err.ensures.reads in
    same_fault {B = Prototype × ℕ} proto (proto, n) c.in-Err.fault (only_by exact_whole c.args.bytes.now c.read_whole.new.input (Err c.in-Err.fault) says proto n b)

pub overflow_sub-result : goal.overflow_sub-result
overflow_sub-result c =
    let says = rw c.new-input.ensures at c.in-Ok.ensures.reads in
    let shorter : length c.read_whole.new.input ≤ length c.args.bytes.now = shorter_by exact_whole _ _ (Ok c.in-Ok.proto) says in
    search rules

pub returns-in-Ok-clause-found : goal.returns-in-Ok-clause-found
returns-in-Ok-clause-found c =
    let says = rw c.new-input.ensures at c.in-Ok.ensures.reads in
    rw c.len.ensures (begins_with exact_whole _ _ c.in-Ok.proto says)

pub returns-in-Ok-clause-only : goal.returns-in-Ok-clause-only
returns-in-Ok-clause-only c proto n b =
    let says = rw c.new-input.ensures at c.in-Ok.ensures.reads in
    let counted : length c.args.bytes.now - c.len.result ≡ length c.args.bytes.now - length c.read_whole.new.input = rw c.len.ensures refl in
    pair_by _ _ c.in-Ok.proto _ says counted proto n b
