use Rattle.std.proofs.Common.{◌≡◌, ◌≤◌, ◌+◌, ℕ, List, [], ◌∷◌, ◌++◌, length, take, ap, sym, ◌∙◌, arith}
use Rattle.std.specs.Prelude.{map}
use Rattle.std.proofs.lemmas.List.{length-map, take-map}
use Rattle.int_core.specs.Value.{Value as Meant, range, write_all}
use Rattle.table_core.specs.declared.value.Value.{Value as Kept}
use Rattle.machine_core.specs.Text.{nils}
use Rattle.machine_sound.proofs.Values.{length_write_all}
use Rattle.machine_core.specs.World.{lua}
use Rattle.lua_stack.specs.Frames.{with_registers}
use Rattle.machine_returns.proofs.Padded.{range_first, padded}
use Rattle.machine_returns.proofs.results.write_padded.Goals as goal

within : (n at count : ℕ) (rs : List Meant) → at + count ≤ length rs → n ≤ count → at + n ≤ length (write_all at (nils count) rs)
within n at count rs a l = let e = length_write_all at (nils count) rs (omega (arith, a)) in omega (arith, a, l, e)

first_ones : (f : Kept → Meant) (count : ℕ) (vs : List Kept) → count ≤ length vs → map f (take count vs) ≡ range 0 count (map f vs)
first_ones f count vs l = sym (take-map f count vs) ∙ sym (range_first count (map f vs) (let e = length-map vs f in omega (arith, l, e)))

pub returns-then-values-count : goal.returns-then-values-count
returns-then-values-count c =
    let n = c.args.count in
    let vs = c.args.values.now in
    let l : n ≤ length vs = c.if-values-count.true in
    record {
      top = λ f k below t e. c.write_registers.ensures.top f k below t e ∙ ap (λ ws. below ++ lua (with_registers (write_all c.args.at ws t.own.registers) t) ∷ []) (first_ones f n vs l);
      cells = c.write_registers.ensures.cells;
    }

pub write_registers-requires-2 : goal.write_registers-requires-2
write_registers-requires-2 c =
    let h = c.requires in
    record {
      value = h.value;
      below = h.below;
      top = with_registers (write_all c.args.at (nils c.args.count) h.top.own.registers) h.top;
      is = c.write_nils.ensures.top h.value h.nil_is h.below h.top h.is;
      room = within (length c.args.values.now) c.args.at c.args.count h.top.own.registers h.room (let l = c.if-values-count.false in omega (arith, l));
    }

pub returns : goal.returns
returns c =
    let n = c.args.count in
    let vs = c.args.values.now in
    record {
      top = λ f k below t e.
          c.write_registers-2.ensures.top f k below (with_registers (write_all c.args.at (nils n) t.own.registers) t) (c.write_nils.ensures.top f k below t e)
          ∙ ap (λ rs. below ++ lua (with_registers rs t) ∷ []) (padded c.args.at n (map f vs) t.own.registers (let l = c.if-values-count.false in let e = length-map vs f in omega (arith, l, e)));
      cells = c.write_registers-2.ensures.cells ∙ c.write_nils.ensures.cells;
    }
