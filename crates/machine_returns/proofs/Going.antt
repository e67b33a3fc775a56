-- What is left of an instruction, by the wait of its frame.
use Rattle.std.proofs.Common.{◌≡◌, ℕ, ◌+◌, List, [], ◌∷◌, refl, ap, sym, subst, true, Result, IfOk}
use Rattle.std.specs.Prelude.{drop, map}
use Rattle.std.proofs.lemmas.Result.{IfOk-weaker}
use Rattle.code_core.specs.Instruction.{a_of, c_of}
use Rattle.code_core.specs.declared.instruction.Instruction.{Instruction}
use Rattle.int_core.specs.Value.{Value}
use Rattle.machine_core.specs.InstructionRows.{closes, fails, returns, write_values}
use Rattle.machine_core.specs.FrameRows.{When, by_asking, expand_by, goes_on_by}
use Rattle.table_core.specs.declared.value.Value.{Value as Kept}
use Rattle.lua_stack.specs.declared.frame.Wait.{Wait}
use Rattle.lua_stack.specs.declared.frame.Wait.TheVariants.{ForCall, ForIterator, ForClose, Returning, Leaving}
use Rattle.lua_heap.specs.declared.world.World.{World as Memory}
use Rattle.lua_heap.specs.Reading.{value}
use Rattle.move_laws.specs.Memory.{IsSafe, Leads}
use Rattle.machine_moves.specs.Ending.{ending_of}
use Rattle.machine_moves.specs.declared.ending.Ending.{Ending}
use Rattle.machine_returns.specs.Closing.{MayClose}
use Rattle.machine_returns.specs.Results.{MayTake}
use Rattle.machine_returns.specs.GoingOn.{GoesOn, MayGoOn, left_row, told_so, waits_for_call}

-- no wait but these is one for results or for an error
pub none_else : (wait : Wait) → waits_for_call wait ≡ true → (wait ≡ ForCall → ⊥) → (wait ≡ ForIterator → ⊥) → (wait ≡ ForClose → ⊥) → ((count : ℕ) → wait ≡ Returning count → ⊥) → ((error : Kept) → wait ≡ Leaving error → ⊥) → ⊥
none_else ForCall t a b c d e = a refl
none_else ForIterator t a b c d e = b refl
none_else ForClose t a b c d e = c refl
none_else (Returning count) t a b c d e = d count refl
none_else (Leaving error) t a b c d e = e error refl
none_else _ t a b c d e = absurd (cc)

module _ (W : Memory) (word : Instruction) (wait : Wait) (came : List Kept) where
  may_so : (other : Wait) → wait ≡ other → (m : MayGoOn W word wait came) → IsSafe (left_row W other m.code m.pc m.opcode word) (told_so W other came) W
  may_so other e m = subst (λ wait. IsSafe (left_row W wait m.code m.pc m.opcode word) (told_so W wait came) W) e m.safe

  goes_so : (V : Memory) (other : Wait) (ending : Ending) → wait ≡ other → GoesOn W V word other came (ending_of ending) → GoesOn W V word wait came (ending_of ending)
  goes_so V other ending e g = subst (λ wait. GoesOn W V word wait came (ending_of ending)) (sym e) g

  -- results come to registers

  abbrev Takes : Memory → (to count : ℕ) → Ending → Type 0
  Takes V to count ending = (when : When) (env : List Value) (slot : ℕ) → drop slot env ≡ map (value W.strings) came → Leads (expand_by when (write_values to count slot)) env W V (ending_of ending)

  take : (to count to' count' : ℕ) → to ≡ to' → count ≡ count' → IsSafe (expand_by by_asking (write_values to' count' 0)) (map (value W.strings) came) W → MayTake W to count came
  take to count to' count' e f s = record {
    when = by_asking;
    env = map (value W.strings) came;
    slot = 0;
    are = refl;
    safe = subst (λ to. IsSafe (expand_by by_asking (write_values to count 0)) (map (value W.strings) came) W) (sym e)
        (subst (λ count. IsSafe (expand_by by_asking (write_values to' count 0)) (map (value W.strings) came) W) (sym f) s);
  }

  taken : (V : Memory) (ending : Ending) (to count to' count' : ℕ) → to ≡ to' → count ≡ count' → Takes V to count ending → Leads (expand_by by_asking (write_values to' count' 0)) (map (value W.strings) came) W V (ending_of ending)
  taken V ending to count to' count' e f l =
      subst (λ count. Leads (expand_by by_asking (write_values to' count 0)) (map (value W.strings) came) W V (ending_of ending)) f
      (subst (λ to. Leads (expand_by by_asking (write_values to count 0)) (map (value W.strings) came) W V (ending_of ending)) e
      (l by_asking (map (value W.strings) came) 0 refl))

  pub call_takes : (a c : ℕ) → wait ≡ ForCall → a ≡ a_of word → c ≡ c_of word → MayGoOn W word wait came → MayTake W a c came
  call_takes a c e f g m = take a c (a_of word) (c_of word) f g (may_so ForCall e m)

  pub call_goes : {E : Type 0} (V : Memory) (r : Result Ending E) (a c : ℕ) → wait ≡ ForCall → a ≡ a_of word → c ≡ c_of word → IfOk r (λ ending. Takes V a c ending) → IfOk r (λ ending. GoesOn W V word wait came (ending_of ending))
  call_goes V r a c e f g o = IfOk-weaker r _ _ (λ ending l. goes_so V ForCall ending e (record { leads = λ code pc op. taken V ending a c (a_of word) (c_of word) f g l })) o

  pub iterator_takes : (a c : ℕ) → wait ≡ ForIterator → a ≡ a_of word → c ≡ c_of word → MayGoOn W word wait came → MayTake W (a + 4) (c + 1) came
  iterator_takes a c e f g m = take (a + 4) (c + 1) (a_of word + 4) (c_of word + 1) (ap (λ n. n + 4) f) (ap (λ n. n + 1) g) (may_so ForIterator e m)

  pub iterator_goes : {E : Type 0} (V : Memory) (r : Result Ending E) (a c : ℕ) → wait ≡ ForIterator → a ≡ a_of word → c ≡ c_of word → IfOk r (λ ending. Takes V (a + 4) (c + 1) ending) → IfOk r (λ ending. GoesOn W V word wait came (ending_of ending))
  iterator_goes V r a c e f g o =
      IfOk-weaker r _ _ (λ ending l. goes_so V ForIterator ending e (record { leads = λ code pc op. taken V ending (a + 4) (c + 1) (a_of word + 4) (c_of word + 1) (ap (λ n. n + 4) f) (ap (λ n. n + 1) g) l })) o

  -- variables are closed

  pub close_may : (a : ℕ) → wait ≡ ForClose → a ≡ a_of word → MayGoOn W word wait came → MayClose W a
  close_may a e f m = record {
    when = by_asking;
    env = map (value W.strings) came;
    safe = subst (λ a. IsSafe (goes_on_by (closes a)) (map (value W.strings) came) W) (sym f) (may_so ForClose e m);
  }

  pub close_goes : {E : Type 0} (V : Memory) (r : Result Ending E) (a : ℕ) → wait ≡ ForClose → a ≡ a_of word → IfOk r (λ ending. (env : List Value) → Leads (goes_on_by (closes a)) env W V (ending_of ending)) → IfOk r (λ ending. GoesOn W V word wait came (ending_of ending))
  close_goes V r a e f o =
      IfOk-weaker r _ _ (λ ending l. goes_so V ForClose ending e (record {
        leads = λ code pc op. subst (λ a. Leads (goes_on_by (closes a)) (map (value W.strings) came) W V (ending_of ending)) f (l (map (value W.strings) came));
      })) o

  -- the frame is left

  pub return_goes : {E : Type 0} (V : Memory) (r : Result Ending E) (a count : ℕ) → wait ≡ Returning count → a ≡ a_of word → IfOk r (λ ending. (env : List Value) → Leads (goes_on_by (returns a count)) env W V (ending_of ending)) → IfOk r (λ ending. GoesOn W V word wait came (ending_of ending))
  return_goes V r a count e f o =
      IfOk-weaker r _ _ (λ ending l. goes_so V (Returning count) ending e (record {
        leads = λ code pc op. subst (λ a. Leads (goes_on_by (returns a count)) (map (value W.strings) came) W V (ending_of ending)) f (l (map (value W.strings) came));
      })) o

  pub error_goes : {E : Type 0} (V : Memory) (r : Result Ending E) (error : Kept) (values : List Kept) → wait ≡ Leaving error → values ≡ error ∷ [] → IfOk r (λ ending. Leads (goes_on_by fails) (map (value W.strings) values) W V (ending_of ending)) → IfOk r (λ ending. GoesOn W V word wait came (ending_of ending))
  error_goes V r error values e f o =
      IfOk-weaker r _ _ (λ ending l. goes_so V (Leaving error) ending e (record {
        leads = λ code pc op. subst (λ values. Leads (goes_on_by fails) (map (value W.strings) values) W V (ending_of ending)) f l;
      })) o
