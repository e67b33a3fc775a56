use Rattle.std.proofs.Common.{rules, arith, ◌≡◌, ◌+◌, ◌-◌, ◌<◌, length, subst, drop}
use Rattle.std.specs.Prelude.{slice_index_or}
use Rattle.tree_core.specs.Tree.{exps}
use Rattle.tree_core.specs.Plain.{plain_exps}
use Rattle.code_of.specs.Parts.{stores_code}
use Rattle.code_emitter.specs.Listing.{listed}
use Rattle.code_stat.proofs.Going.{next_store, no_store}
use Rattle.code_stat.proofs.stores.write_stores.Goals as goal

pub loop-left-init : goal.loop-left-init
loop-left-init c =
    let size : c.len-left.result ≡ length c.args.targets.now.items = search rules in (
      omega (arith, size),
      omega (arith, c.in_ok-behind.ensures, c.in_ok-register.ensures),
      omega (arith, c.in_ok-value.ensures),
      no_store c.args.targets.now.items c.len-left.result c.args.emitter.now c.in_ok-register.register c.in_ok-value.value (omega (arith, size)),
    )

pub loop-left-preserved : goal.loop-left-preserved
loop-left-preserved c =
    let inside : c.loop-left.left - 1 < length c.args.targets.now.items = omega (arith, c.loop-left.invariant.0, c.loop-left-test.true) in
    let is : c.index.result.now ≡ slice_index_or c.args.targets.now.items (c.loop-left.left - 1) c.index.result.now = search rules in (
      omega (arith, c.loop-left.invariant.0),
      omega (arith, c.loop-left.invariant.1, c.loop-left-test.true),
      omega (arith, c.loop-left.invariant.2, c.loop-left-test.true),
      (let one : c.loop-left.left ≡ c.loop-left.left - 1 + 1 = omega (arith, c.loop-left-test.true) in
          next_store c.args.targets.now.items (c.loop-left.left - 1) c.index.result.now c.args.emitter.now c.loop-left.emitter c.write_store.new.emitter c.loop-left.register c.loop-left.value (c.loop-left.register - 2) (c.loop-left.value - 1) inside is
          (omega (arith, c.loop-left.invariant.1, c.loop-left-test.true)) (omega (arith, c.loop-left.invariant.2, c.loop-left-test.true)) (subst (λ n. c.loop-left.emitter ≡ listed c.args.emitter.now (stores_code c.args.emitter.now.constants (exps (plain_exps (drop n c.args.targets.now.items))) c.loop-left.register c.loop-left.value)) one c.loop-left.invariant.3) c.in_ok-write_store.ensures),
    )
