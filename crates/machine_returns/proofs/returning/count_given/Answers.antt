use Rattle.std.proofs.Common.{◌≡◌, ℕ, suc, ◌-◌, [], ◌++◌, length, refl, ap, sym, subst, arith}
use Rattle.std.specs.Prelude.{cond, map, pos, ◌==◌}
use Rattle.std.proofs.lemmas.List.{length-map}
use Rattle.int_core.specs.Value.{Shape, nil, integer, is_known, range}
use Rattle.machine_core.specs.Text.{Text, read_list, read_registers}
use Rattle.machine_core.specs.InstructionRows.{counted, read_values, returns as returns_text}
use Rattle.machine_core.specs.FrameRows.{expand}
use Rattle.machine_core.specs.Moves.{on_own, run}
use Rattle.machine_sound.proofs.OpcodesCalls.{not_zero}
use Rattle.lua_heap.specs.Codes.{no_code}
use Rattle.lua_heap.specs.Plain.{plain}
use Rattle.lua_heap.specs.Reading.{value as meant}
use Rattle.move_laws.specs.Memory.{IsSafe}
use Rattle.move_laws.proofs.Rows.{act_is, can_do}
use Rattle.move_laws.proofs.Running.{own_read}
use Rattle.machine_returns.proofs.Given.{list_there}
use Rattle.machine_returns.proofs.returning.count_given.Goals as goal

abbrev returned : (from count : ℕ) → ℕ → Shape → Text
returned from count n s = returns_text from (cond (count == 0) (counted s) (count - 1))

pub read_list-requires-clause-there : goal.read_list-requires-clause-there
read_list-requires-clause-there c =
    let s = subst (λ n. IsSafe (expand (read_values c.args.from n (returned c.args.from c.args.count))) [] c.args.world.now) c.if-count-eq0.true (c.requires.safe no_code 0) in
    can_do (read_list c.args.from) (λ n s. expand (returned c.args.from c.args.count n s)) s

pub returns-then-count-eq0 : goal.returns-then-count-eq0
returns-then-count-eq0 c =
    let W = c.args.world.now in
    let list = c.read_list.result.now in
    let vs = map (meant W.strings) list in
    let told : Shape = is_known (integer (pos (length list))) in
    let zero = c.if-count-eq0.true in
    let safe = subst (λ n. IsSafe (expand (read_values c.args.from n (returned c.args.from c.args.count))) [] W) zero (c.requires.safe no_code 0) in
    let d = can_do (read_list c.args.from) (λ n s. expand (returned c.args.from c.args.count n s)) safe in
    record {
      values = vs;
      told = told;
      goes = λ k env fuel.
          subst (λ n. run (expand (read_values c.args.from n k)) env (plain W fuel) ≡ run (expand (k (length env) told)) (env ++ vs) (plain W fuel)) (sym zero)
          (act_is (on_own (read_list c.args.from)) (λ n s. expand (k n s)) env (plain W fuel) (plain W fuel) vs told ((c.read_list.ensures env).is fuel));
      is = subst (λ n. cond (n == 0) (length list) (n - 1) ≡ length list) (sym zero) refl;
      there = list_there W c.args.from (length list) vs told c.requires.sound d (c.read_list.ensures []) (length-map list (meant W.strings));
    }

pub returns : goal.returns
returns c =
    let W = c.args.world.now in
    let n = c.args.count - 1 in
    let one_more : c.args.count ≡ suc n = (let z = c.if-count-eq0.false in omega (arith, z)) in
    let safe = subst (λ n. IsSafe (expand (read_values c.args.from n (returned c.args.from c.args.count))) [] W) one_more (c.requires.safe no_code 0) in
    let d = can_do (read_registers c.args.from n) (λ n s. expand (returned c.args.from c.args.count n s)) safe in
    let p = d.place in
    let vs = range c.args.from n p.top.own.registers in
    let told : Shape = is_known nil in
    record {
      values = vs;
      told = told;
      goes = λ k env fuel.
          subst (λ n. run (expand (read_values c.args.from n k)) env (plain W fuel) ≡ run (expand (k (length env) told)) (env ++ vs) (plain W fuel)) (sym one_more)
          (act_is (on_own (read_registers c.args.from n)) (λ n s. expand (k n s)) env (plain W fuel) (plain W fuel) vs told (own_read (plain W fuel) p (read_registers c.args.from n) env d.is d.fits refl refl));
      is = ap (λ b. cond b (counted told) n) (not_zero c.args.count n one_more);
      there = d;
    }
