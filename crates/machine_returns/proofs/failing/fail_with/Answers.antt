use Rattle.std.proofs.Common.{◌≡◌, ℕ, List, [], ◌∷◌, ◌++◌, length, refl, ap, sym, ◌∙◌}
use Rattle.std.specs.Prelude.{cond, map}
use Rattle.int_core.specs.Value.{Shape, Value as Meant, known, nil, nth}
use Rattle.table_core.specs.declared.value.Value.{Value as Kept}
use Rattle.table_core.specs.declared.value.Value.TheVariants.{Nil}
use Rattle.list_laws.proofs.Values.{nth_mid}
use Rattle.machine_core.specs.World.{leaving}
use Rattle.machine_core.specs.Text.{Text, read, written, close, leave, thrown}
use Rattle.machine_core.specs.InstructionRows.{is_true, left_so}
use Rattle.machine_core.specs.FrameRows.{by_asking, expand_by}
use Rattle.lua_heap.specs.Reading.{value as meant}
use Rattle.lua_stack.specs.declared.frame.Wait.TheVariants.{Leaving}
use Rattle.machine_calls.specs.declared.preparing.Prepared.TheVariants.{LeftSo}
use Rattle.move_laws.proofs.Rows.{first}
use Rattle.machine_returns.specs.Closing.{NamesClose}
use Rattle.machine_returns.specs.Failing.{first_or}
use Rattle.machine_returns.proofs.Tops.{can_see, can_leave}
use Rattle.machine_returns.proofs.Closed.{seen_some, seen_none, where_ok}
use Rattle.machine_returns.proofs.failing.fail_with.Goals as goal

abbrev seen : ℕ → Shape → Text
seen v s = cond (is_true s) (close (read v) (read 0) (leaving (read 0)) left_so) (leave (thrown (read 0)))

none_seen : (f : Kept → Meant) (vs : List Kept) → f Nil ≡ known nil → nth (map f vs ++ []) 0 ≡ f (first_or vs Nil)
none_seen f [] e = sym e
none_seen f (v ∷ vs) e = refl

one_seen : (f : Kept → Meant) (vs : List Kept) (v : Kept) → nth (map f vs ++ f v ∷ []) 0 ≡ f (first_or vs v)
one_seen f [] v = refl
one_seen f (w ∷ vs) v = refl

still_first : (f : Kept → Meant) (vs : List Kept) (v : Kept) (more : List Meant) → nth ((map f vs ++ f v ∷ []) ++ more) 0 ≡ f (first_or vs v)
still_first f [] v more = refl
still_first f (w ∷ vs) v more = refl

pub see_pending-requires : goal.see_pending-requires
see_pending-requires c = can_see c.args.world.now c.requires.frame.place 0 c.requires.solid c.requires.frame.is

pub returns-in_default-clause-leads : goal.returns-in_default-clause-leads
returns-in_default-clause-leads c =
    let W = c.args.world.now in
    let env = map (meant W.strings) c.args.moved.now in
    where_ok c.leave_with_error.result c.leave_with_error.ensures.leads (λ ending l.
    first (λ v s. expand_by by_asking (seen v s)) (seen_none W 0 c.see_pending.result c.see_pending.ensures c.in_default.is env)
    (l by_asking (env ++ []) (read 0) (none_seen (meant W.strings) c.args.moved.now refl ∙ sym (ap (meant W.strings) c.first_or.ensures))))

pub ask_to_close-requires-clause-ready : goal.ask_to_close-requires-clause-ready
ask_to_close-requires-clause-ready c = can_leave c.args.world.now c.requires.frame.place c.requires.solid c.requires.frame.is

pub returns-clause-leads : goal.returns-clause-leads
returns-clause-leads c =
    let W = c.args.world.now in
    let f = meant W.strings in
    let v = c.in-Some.v in
    let moved = c.args.moved.now in
    let env = map f moved in
    let error = c.first_or-error.result in
    let is : f (first_or moved v) ≡ f error = sym (ap f c.first_or-error.ensures) in
    let names : NamesClose W (env ++ f v ∷ []) (read (length env)) (read 0) (written nil) (leaving (read 0)) v error (Leaving error) LeftSo =
    record { closes = nth_mid env [] (f v); fails = one_seen f moved v ∙ is; waits = λ _. ap leaving (still_first f moved v _ ∙ is); copies = λ _. tt } in
    where_ok c.ask_to_close.result c.ask_to_close.ensures.leads (λ ending asks.
    first (λ v s. expand_by by_asking (seen v s)) (seen_some W 0 c.see_pending.result v c.see_pending.ensures c.in-Some.is env)
    (asks.leads (env ++ f v ∷ []) (read (length env)) (read 0) (written nil) (leaving (read 0)) names))
