use Rattle.std.proofs.Common.{rules, arith, ◌≡◌, ◌<◌, ◌&&◌, true, false, length}
use Rattle.std.specs.Prelude.{nat_eq}
use Rattle.code_stat.proofs.LocalFunctions.{captured_here, captured_further}
use Rattle.code_stat.proofs.simple.captures_local.Goals as goal

pub loop-upvalue-preserved : goal.loop-upvalue-preserved
loop-upvalue-preserved c =
    let inside : c.loop-upvalue.upvalue-index < length c.deref-upvalue-items.result.now = omega (arith, c.loop-upvalue-test.true, c.loop-upvalue.auto.upvalue-index-end) in
    let other : (c.upvalue-item.result.in_stack && nat_eq c.upvalue-item.result.index c.args.register) ≡ false = search rules in
    captured_further c.args.register c.deref-upvalue-items.result.now c.loop-upvalue.upvalue-index c.upvalue-item.result _ inside c.upvalue-item.is other c.loop-upvalue.invariant

pub returns-then-is_local : goal.returns-then-is_local
returns-then-is_local c =
    let inside : c.loop-upvalue.upvalue-index < length c.deref-upvalue-items.result.now = omega (arith, c.loop-upvalue-test.true, c.loop-upvalue.auto.upvalue-index-end) in
    let this : (c.upvalue-item.result.in_stack && nat_eq c.upvalue-item.result.index c.args.register) ≡ true = search rules in
    captured_here c.args.register c.deref-upvalue-items.result.now c.loop-upvalue.upvalue-index c.upvalue-item.result _ inside c.upvalue-item.is this c.loop-upvalue.invariant
