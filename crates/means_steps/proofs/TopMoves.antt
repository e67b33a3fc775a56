-- What the moves of a row do to a world with a Lua frame on top.
use Rattle.std.proofs.Common.{ℕ, ◌-◌, ◌≡◌, List, [], ◌∷◌, ◌++◌, length, Some, None, ap, ◌∙◌, arith}
use Rattle.std.proofs.Math.Path.{fun_ext}
use Rattle.std.specs.Prelude.{ℤ, slice_get, slice_set, drop, cond, nat_lt}
use Rattle.code_core.specs.Check.{at}
use Rattle.int_core.specs.Value.{Value, bind, last}
use Rattle.int_core.specs.Operations.{Operation, does, callee_of, greatest_chain}
use Rattle.list_laws.proofs.Ends.{upward, last_is, without_last_is, length_upward}
use Rattle.list_laws.proofs.Items.{get_set_same}
use Rattle.machine_core.specs.World.{Function, Cell, Wait, leaving, Activation, Frame, lua, in_progress, World, Stack, stack_of, Place, place_of, lua_frame, put_frames, put_top, pop, find_open, close_from}
use Rattle.machine_core.specs.Text.{Arg, arg, args_of, Own, close_cells, keep_pending, reads, tells, effect, fits, done, Quick, Given, given_values}
use Rattle.machine_core.specs.Moves.{on_own, move_pc, open_register, outside, settle, enter, enter_tail, await, begin_leaving, leave_frame, made, move, with_own, cells_after, cells_done, do_own, moved_pc, do_outside, settled, enters_paid, called_tail, popped, top_now, top_shape, named, place_from, opened_cells, blamed}
use Rattle.machine_sound.proofs.Frames.{stack_is}
use Rattle.means_steps.proofs.Middle.{frame}

abbrev pub stack_at : ℕ → List Frame → Stack
stack_at co ms = record { coroutine = co; frames = upward ms }

abbrev pub place : ℕ → List Frame → ℕ → Wait Value → Activation → Function → Place
place co below n w a g = record { stack = stack_at co (lua (frame n w a) ∷ below); number = length below; top = frame n w a; function = g }

module _ (M : World) (co n : ℕ) (w : Wait Value) (own : Activation) (g : Function) (below : List Frame) where
  -- with another frame on top, and other cells
  abbrev pub with_top : List Cell → Wait Value → Activation → World
  with_top ws w' own' = record M { cells = ws; coroutines = slice_set M.coroutines co (in_progress (upward (lua (frame n w' own') ∷ below))) }

  abbrev pub with_done : Wait Value → List Own → List Value → World
  with_done u ps env = with_top (cells_done ps g.code co (length below) env own M.cells) u (done ps g.code env own)

  abbrev pub without_top : World
  without_top = record M { cells = close_from co (length below) 0 own.registers M.cells; coroutines = slice_set M.coroutines co (in_progress (upward below)) }

  with_own_is : (u : Wait Value) (ps : List Own) (env : List Value) → with_own M (place co below n w own g) u ps env ≡ with_done u ps env
  unfolding with_own put_top put_frames
  with_own_is u ps env =
      ap (λ xs. record M { cells = cells_done ps g.code co (length below) env own M.cells; coroutines = slice_set M.coroutines co (in_progress (xs ++ lua (frame n u (done ps g.code env own)) ∷ [])) }) (without_last_is (upward below) (lua (frame n w own)))

  pub popped_is : popped M (place co below n w own g) ≡ without_top
  unfolding popped pop put_frames
  popped_is = ap (λ xs. record M { cells = close_from co (length below) 0 own.registers M.cells; coroutines = slice_set M.coroutines co (in_progress xs) }) (without_last_is (upward below) (lua (frame n w own)))

  top_is : (own' : Activation) → put_top M (stack_at co (lua (frame n w own) ∷ below)) (lua (frame n w own')) ≡ with_top M.cells w own'
  unfolding put_top put_frames
  top_is own' = ap (λ xs. record M { coroutines = slice_set M.coroutines co (in_progress (xs ++ lua (frame n w own') ∷ [])) }) (without_last_is (upward below) (lua (frame n w own)))

  module _ (at_end : last M.chain ≡ Some co) (runs : slice_get M.coroutines co ≡ Some (in_progress (upward (lua (frame n w own) ∷ below)))) where
    pub stack_now : stack_of M ≡ Some (stack_at co (lua (frame n w own) ∷ below))
    stack_now = stack_is M co (upward (lua (frame n w own) ∷ below)) at_end runs

    abbrev pub left_world : List Value → World
    left_world vs = record without_top { moving = vs }

    pub left_stack : (vs : List Value) → stack_of (left_world vs) ≡ Some (stack_at co below)
    left_stack vs = stack_is (left_world vs) co (upward below) at_end (get_set_same M.coroutines co (in_progress (upward (lua (frame n w own) ∷ below))) (in_progress (upward below)) runs)

    module _ (there : slice_get M.functions n ≡ Some g) where
      pub place_is : place_of M ≡ Some (place co below n w own g)
      place_is =
          ap (λ s. bind s (λ s. bind (bind (last s.frames) lua_frame) (λ top. bind (slice_get M.functions top.function) (λ f. Some (record { stack = s; number = length s.frames - 1; top = top; function = f }))))) stack_now
          ∙ ap (λ x. bind (bind x lua_frame) (λ top. bind (slice_get M.functions top.function) (λ f. Some (record { stack = stack_at co (lua (frame n w own) ∷ below); number = length (upward below ++ lua (frame n w own) ∷ []) - 1; top = top; function = f })))) (last_is (upward below) (lua (frame n w own)))
          ∙ ap (λ x. bind x (λ f. Some (record { stack = stack_at co (lua (frame n w own) ∷ below); number = length (upward below ++ lua (frame n w own) ∷ []) - 1; top = frame n w own; function = f }))) there
          ∙ ap (λ k. Some (record { stack = stack_at co (lua (frame n w own) ∷ below); number = k; top = frame n w own; function = g })) (let l = length_upward (lua (frame n w own) ∷ below) in omega (arith, l))

      pub own_move : (m : Own) (env : List Value) → move (on_own m) env M ≡ cond (fits m g.code own) (made (with_top (cells_after m co (length below) own M.cells) w (effect m g.code env own)) (reads m g.code env own) (tells m g.code env own)) None
      own_move m env =
          ap (λ o. bind o (do_own m env M)) place_is
          ∙ ap (λ W. cond (fits m g.code own) (made W (reads m g.code env own) (tells m g.code env own)) None) (with_own_is w (m ∷ []) env)

      pub pc_move : (z : ℤ) (env : List Value) → move (move_pc z) env M ≡ bind (place_from own.pc z) (λ pc. bind (at g.code pc) (λ _. made (with_top M.cells w (record own { pc = pc })) [] tt))
      pc_move z env =
          ap (λ o. bind o (λ p. moved_pc M p z)) place_is
          ∙ ap (λ (F : ℕ → World). bind (place_from own.pc z) (λ pc. bind (at g.code pc) (λ _. made (F pc) [] tt)))
          (fun_ext (λ pc. top_is (record own { pc = pc })))

      pub open_move : (r : ℕ) (env : List Value) → move (open_register r) env M ≡ cond (nat_lt r (length own.registers)) (made (record M { cells = opened_cells (find_open co (length below) r M.cells) co (length below) r M.cells }) [] tt) None
      open_move r env = ap (λ o. bind o (λ p. cond (nat_lt r (length p.top.own.registers))
          (made (record M { cells = opened_cells (find_open p.stack.coroutine p.number r M.cells) p.stack.coroutine p.number r M.cells }) [] tt) None)) place_is

      pub quick_move : (q : Quick) (env : List Value) → move (outside q) env M ≡ do_outside q env M (place co below n w own g)
      quick_move q env = ap (λ o. bind o (do_outside q env M)) place_is

      pub settle_move : (op : Operation) (xs : List Arg) (env : List Value) → move (settle op xs) env M ≡ settled M (place co below n w own g) (does op (args_of env xs) M.heap)
      settle_move op xs env = ap (λ o. bind o (λ p. settled M p (does op (args_of env xs) M.heap))) place_is

      pub enter_move : (f : Arg) (slot : ℕ) (wait : Wait Arg) (ps : List Own) (env : List Value) → move (enter f slot wait ps) env M ≡ enters_paid M (with_done (named env wait) ps env) (callee_of greatest_chain M.heap (arg env f) (drop slot env))
      enter_move f slot wait ps env =
          ap (λ o. bind o (λ p. enters_paid M (with_own M p (named env wait) ps env) (callee_of greatest_chain M.heap (arg env f) (drop slot env)))) place_is
          ∙ ap (λ W. enters_paid M W (callee_of greatest_chain M.heap (arg env f) (drop slot env))) (with_own_is (named env wait) ps env)

      pub await_move : (f : Arg) (slot : ℕ) (wait : Wait Arg) (ps : List Own) (env : List Value) → move (await f slot wait ps) env M ≡ made (record (with_done (named env wait) ps env) { moving = arg env f ∷ drop slot env }) [] tt
      await_move f slot wait ps env =
          ap (λ o. bind o (λ p. made (record (with_own M p (named env wait) ps env) { moving = arg env f ∷ drop slot env }) [] tt)) place_is
          ∙ ap (λ (W : World). made (record W { moving = arg env f ∷ drop slot env }) [] tt) (with_own_is (named env wait) ps env)

      pub tail_move : (f : Arg) (slot : ℕ) (env : List Value) → move (enter_tail f slot) env M ≡ called_tail M (place co below n w own g) (callee_of greatest_chain M.heap (arg env f) (drop slot env))
      tail_move f slot env = ap (λ o. bind o (λ p. called_tail M p (callee_of greatest_chain M.heap (arg env f) (drop slot env)))) place_is

      abbrev pub left_so : List Own
      left_so = close_cells 0 ∷ keep_pending ∷ []

      pub leaving_move : (text : List ℕ) (env : List Value) → move (begin_leaving text) env M ≡ made (record (with_done (leaving (blamed M text)) left_so []) { moving = blamed M text ∷ [] }) [] tt
      leaving_move text env =
          ap (λ o. bind o (λ p. made (record (with_own M p (leaving (blamed M text)) left_so []) { moving = blamed M text ∷ [] }) [] tt)) place_is
          ∙ ap (λ (W : World). made (record W { moving = blamed M text ∷ [] }) [] tt) (with_own_is (leaving (blamed M text)) left_so [])

      pub leave_move : (given : Given) (env : List Value) → move (leave_frame given) env M ≡ made (left_world (given_values env given)) [] (top_shape (left_world (given_values env given)) (last (upward below)))
      leave_move given env =
          ap (λ o. bind o (λ p. let V = record (popped M p) { moving = given_values env given } in bind (top_now V) (λ top. made V [] top))) place_is
          ∙ ap (λ (U : World). let V = record U { moving = given_values env given } in bind (top_now V) (λ top. made V [] top)) popped_is
          ∙ ap (λ o. bind (bind o (λ s. Some (top_shape (left_world (given_values env given)) (last s.frames)))) (λ top. made (left_world (given_values env given)) [] top)) (left_stack (given_values env given))
