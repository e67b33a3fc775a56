-- Moves that end, suspend, resume, close and make coroutines.
use Rattle.std.proofs.Common.{ℕ, zero, suc, ◌+◌, ◌*◌, ◌-◌, ◌≤◌, ◌≡◌, List, [], ◌∷◌, ◌++◌, Option, Some, None, refl, subst, sym, ap, ◌∙◌, length, arith, Bool, true, false, cond, drop, length-append}
use Rattle.std.specs.Prelude.{slice_get, slice_set, IsTrue, nat_le, nat_lt, flat_map, codes}
use Rattle.int_core.specs.Value.{Value, bind, last, without_last}
use Rattle.int_core.specs.Limits.{greatest_resumes, stack_overflow}
use Rattle.int_core.specs.Operations.{is_function}
use Rattle.code_core.specs.Prototype.{instruction_count}
use Rattle.machine_core.specs.World.{Function, Cell, Frame, closing, Coroutine, fresh, suspended, in_progress, normal, dead, failed, World, Stack, stack_of, push}
use Rattle.machine_core.specs.Text.{Arg, arg}
use Rattle.machine_core.specs.Moves.{Made, made, end_coroutine, fail_coroutine, suspend, resume, begin_closing, create, put_coroutine, awake, back_to_resumer, bury, ends_as, suspend_running, wait_for_another, go_into, resumes, closes_in, closes_coroutine, coroutine_number, add_coroutine, all_closed_from, pending_values, has_room, enters, CallShape, is_entered, is_primitive, not_paid, not_entered, ResumeShape, resumed, refused, top_shape, move}
use Rattle.machine_sound.specs.Sound.{Each}
use Rattle.machine_sound.proofs.Lists.{get_set_other, last_push}
use Rattle.machine_sound.proofs.Values.{le_of}
use Rattle.machine_ends.specs.Measure.{Within, frames_weight, coroutine_weight, coroutines_weight, world_weight}
use Rattle.machine_ends.specs.Falls.{anywhere, after_resume, after_beginning}
use Rattle.machine_ends.proofs.Weights.{Runs, stack_runs, cos_set, cos_push, chain_longer, pendings_weight}
use Rattle.machine_ends.proofs.Held.{spare, Holds, HoldsAfter, top_is}
use Rattle.machine_ends.proofs.Outside.{through, here, if_so}
use Rattle.machine_ends.proofs.Calls.{EnteredSo, enters_so, push_weight, push_functions}
use Rattle.machine_ends.proofs.Others.{push_runs}

-- back to the coroutine that resumed the running one

awake_weight : (most : ℕ) (c : Coroutine) → frames_weight most (awake (Some c)) ≤ coroutine_weight most c
awake_weight most (fresh b) = omega arith
awake_weight most _ = omega arith

cos_awake : (most : ℕ) (cs : List Coroutine) (i : ℕ) → coroutines_weight most (slice_set cs i (in_progress (awake (slice_get cs i)))) ≤ coroutines_weight most cs
cos_awake most [] i = omega arith
cos_awake most (c ∷ cs) zero = let k = awake_weight most c in omega arith
cos_awake most (c ∷ cs) (suc i) = let k = cos_awake most cs i in omega arith

pub back_so : (most : ℕ) (X : World) (co : ℕ) → last X.chain ≡ Some co → ((back_to_resumer X).functions ≡ X.functions) × (world_weight most (back_to_resumer X) + 3 ≤ world_weight most X)
unfolding back_to_resumer put_coroutine
back_so most X co e = by (last (without_last X.chain))
  where
    by : (o : Option ℕ) → ((elim o as (λ _. World) [ None ↦ record X { chain = without_last X.chain } | Some d ↦ record X { chain = without_last X.chain; coroutines = slice_set X.coroutines d (in_progress (awake (slice_get X.coroutines d))) } ]).functions ≡ X.functions)
        × (world_weight most (elim o as (λ _. World) [ None ↦ record X { chain = without_last X.chain } | Some d ↦ record X { chain = without_last X.chain; coroutines = slice_set X.coroutines d (in_progress (awake (slice_get X.coroutines d))) } ]) + 3 ≤ world_weight most X)
    by None = (refl, let k = chain_longer X.chain co e in omega arith)
    by (Some d) = (refl, let k = chain_longer X.chain co e in let j = cos_awake most X.coroutines d in omega arith)

-- the running coroutine becomes another kind, and the one that resumed it goes on
ended_so : (most : ℕ) (W : World) (s : Stack) (cells : List Cell) (c : Coroutine) → Runs W s → coroutine_weight most c ≤ frames_weight most s.frames
    → ((back_to_resumer (record W { cells = cells; coroutines = slice_set W.coroutines s.coroutine c })).functions ≡ W.functions)
    × (world_weight most (back_to_resumer (record W { cells = cells; coroutines = slice_set W.coroutines s.coroutine c })) + 3 ≤ world_weight most W)
ended_so most W s cells c r l =
    let X : World = record W { cells = cells; coroutines = slice_set W.coroutines s.coroutine c } in
    let b = back_so most X s.coroutine r.last_is in
    let k = cos_set most W.coroutines s.coroutine (in_progress s.frames) c r.there in (b.0, let j = b.1 in omega arith)

bury_is : (W : World) (co : ℕ) (fs : List Frame) (c : Coroutine) → bury W co fs c ≡ record W { cells = all_closed_from co 0 fs W.cells; coroutines = slice_set W.coroutines co c }
unfolding bury put_coroutine
bury_is W co fs c = refl

suspend_is : (W : World) (s : Stack) → suspend_running W s ≡ back_to_resumer (record W { cells = W.cells; coroutines = slice_set W.coroutines s.coroutine (suspended s.frames) })
unfolding suspend_running put_coroutine
suspend_is W s = refl

added_is : (W : World) (v : Value) → add_coroutine W v ≡ record W { coroutines = W.coroutines ++ fresh v ∷ [] }
unfolding add_coroutine
added_is W v = refl

-- one that is resumed

into_is : (W : World) (s : Stack) (co : ℕ) (fs : List Frame) → go_into (wait_for_another W s) co fs ≡ record W { coroutines = slice_set (slice_set W.coroutines s.coroutine (normal s.frames)) co (in_progress fs); chain = W.chain ++ co ∷ [] }
unfolding go_into wait_for_another put_coroutine
into_is W s co fs = refl

differ : (W : World) (s : Stack) (co : ℕ) (c : Coroutine) → Runs W s → slice_get W.coroutines co ≡ Some c → (c ≡ in_progress s.frames → ⊥) → s.coroutine ≡ co → ⊥
differ W s co c r e n q = n (some_co c (in_progress s.frames) (sym e ∙ ap (slice_get W.coroutines) (sym q) ∙ r.there))
  where
    some_co : (x y : Coroutine) → Some x ≡ Some y → x ≡ y
    some_co x y e = cc

into_weight : (most : ℕ) (W : World) (s : Stack) (co : ℕ) (c : Coroutine) (fs : List Frame) → Runs W s → slice_get W.coroutines co ≡ Some c → (c ≡ in_progress s.frames → ⊥)
    → world_weight most (go_into (wait_for_another W s) co fs) + coroutine_weight most c ≡ world_weight most W + (3 + frames_weight most fs)
into_weight most W s co c fs r e n = subst (λ V. world_weight most V + coroutine_weight most c ≡ world_weight most W + (3 + frames_weight most fs)) (sym (into_is W s co fs)) (
    let a = cos_set most W.coroutines s.coroutine (in_progress s.frames) (normal s.frames) r.there in
    let b = cos_set most (slice_set W.coroutines s.coroutine (normal s.frames)) co c (in_progress fs) (get_set_other W.coroutines s.coroutine co (normal s.frames) (differ W s co c r e n) ∙ e) in
    let l = length-append W.chain (co ∷ []) in omega arith)

into_functions : (W : World) (s : Stack) (co : ℕ) (fs : List Frame) → (go_into (wait_for_another W s) co fs).functions ≡ W.functions
into_functions W s co fs = ap (λ (V : World). V.functions) (into_is W s co fs)

module _ (most bound : ℕ) (rich : Bool) (c : ℕ) (env : List Value) (W : World) (within : Within most W) (low : world_weight most W + spare most rich c ≤ bound) where
  within_in : (V : World) → V.functions ≡ W.functions → Within most V
  within_in V e = subst (λ fs. Each (λ (f : Function). instruction_count f.code ≤ most) fs) (sym e) within

  -- three less
  less : (V : World) → (V.functions ≡ W.functions) × (world_weight most V + 3 ≤ world_weight most W) → Holds most bound (anywhere rich (c + 3) None) V
  less V o = record { within = within_in V o.0; held = record { low = by rich o.1 low; known = tt } }
    where
      by : (b : Bool) → world_weight most V + 3 ≤ world_weight most W → world_weight most W + spare most b c ≤ bound → world_weight most V + spare most b (c + 3) ≤ bound
      by true k l = omega arith
      by false k l = omega arith

  ended_as : (s : Stack) (d : Coroutine) → Runs W s → coroutine_weight most d ≤ frames_weight most s.frames → Holds most bound (anywhere rich (c + 3) None) (back_to_resumer (bury W s.coroutine s.frames d))
  ended_as s d r l = subst (λ X. Holds most bound (anywhere rich (c + 3) None) (back_to_resumer X)) (sym (bury_is W s.coroutine s.frames d))
      (less _ (ended_so most W s (all_closed_from s.coroutine 0 s.frames W.cells) d r l))

  pub ended : (d : Made Bool) → move end_coroutine env W ≡ Some d → Holds most bound (anywhere rich (c + 3) None) d.world
  ended = through (λ (d : Made Bool). Holds most bound (anywhere rich (c + 3) None) d.world) (ends_as W dead) _ (λ V e. here (λ (d : Made Bool). Holds most bound (anywhere rich (c + 3) None) d.world) _ (by V e))
    where
      by : (V : World) → ends_as W dead ≡ Some V → Holds most bound (anywhere rich (c + 3) None) V
      by = through (λ V. Holds most bound (anywhere rich (c + 3) None) V) (stack_of W) _ (λ s e. here (λ V. Holds most bound (anywhere rich (c + 3) None) V) _ (ended_as s dead (stack_runs W s e) (omega arith)))

  pub failed_so : (x : Arg) (d : Made (Unit {0})) → move (fail_coroutine x) env W ≡ Some d → Holds most bound (anywhere rich (c + 3) None) d.world
  failed_so x = through (λ (d : Made (Unit {0})). Holds most bound (anywhere rich (c + 3) None) d.world) (stack_of W) _ (λ s e. through (λ (d : Made (Unit {0})). Holds most bound (anywhere rich (c + 3) None) d.world) (ends_as W (failed (arg env x) (flat_map pending_values s.frames))) _
      (λ V k. here (λ (d : Made (Unit {0})). Holds most bound (anywhere rich (c + 3) None) d.world) _ (by s e V k)))
    where
      by : (t : Stack) → stack_of W ≡ Some t → (V : World) → ends_as W (failed (arg env x) (flat_map pending_values t.frames)) ≡ Some V → Holds most bound (anywhere rich (c + 3) None) V
      by t q = through (λ V. Holds most bound (anywhere rich (c + 3) None) V) (stack_of W) _ (λ s e. here (λ V. Holds most bound (anywhere rich (c + 3) None) V) _ (ended_as s (failed (arg env x) (flat_map pending_values t.frames)) (stack_runs W s e)
          (let k = pendings_weight most t.frames in let j = ap (λ (s : Stack). frames_weight most s.frames) (some_stack t s (sym q ∙ e)) in omega arith)))
        where
          some_stack : (x y : Stack) → Some x ≡ Some y → x ≡ y
          some_stack x y e = cc

  pub suspended_so : (d : Made Bool) → move suspend env W ≡ Some d → Holds most bound (anywhere rich (c + 3) None) d.world
  suspended_so = through (λ (d : Made Bool). Holds most bound (anywhere rich (c + 3) None) d.world) (stack_of W) _ (λ s e. here (λ (d : Made Bool). Holds most bound (anywhere rich (c + 3) None) d.world) _
      (subst (Holds most bound (anywhere rich (c + 3) None)) (sym (suspend_is W s)) (less _ (ended_so most W s W.cells (suspended s.frames) (stack_runs W s e) (omega arith)))))

  pub created : (x : Arg) → IsTrue (nat_le 5 c) → (d : Made (Unit {0})) → move (create x) env W ≡ Some d → Holds most bound (anywhere rich (c - 5) None) d.world
  created x n = if_so (λ (d : Made (Unit {0})). Holds most bound (anywhere rich (c - 5) None) d.world) (is_function (arg env x)) _ (λ t. here (λ (d : Made (Unit {0})). Holds most bound (anywhere rich (c - 5) None) d.world) _ (new (arg env x)))
    where
      by : (b : Bool) (v : Value) → 5 ≤ c → world_weight most W + spare most b c ≤ bound → world_weight most (record W { coroutines = W.coroutines ++ fresh v ∷ [] }) + spare most b (c - 5) ≤ bound
      by true v n l = let k = cos_push most W.coroutines (fresh v) in omega arith
      by false v n l = let k = cos_push most W.coroutines (fresh v) in omega arith

      new : (v : Value) → Holds most bound (anywhere rich (c - 5) None) (add_coroutine W v)
      new v = subst (Holds most bound (anywhere rich (c - 5) None)) (sym (added_is W v)) (record { within = within; held = record { low = by rich v (le_of 5 c n) low; known = tt } })

  -- fifty left, where a hundred were

  plenty : (V : World) → (V.functions ≡ W.functions) → world_weight most V + 50 ≤ bound → Holds most bound (anywhere false 50 None) V
  plenty V e l = record { within = within_in V e; held = record { low = l; known = tt } }

  enough : IsTrue (nat_le 100 c) → world_weight most W + 100 ≤ bound
  enough n = by rich low
    where
      by : (b : Bool) → world_weight most W + spare most b c ≤ bound → world_weight most W + 100 ≤ bound
      by true l = let k = le_of 100 c n in omega arith
      by false l = let k = le_of 100 c n in omega arith

  rich_low : IsTrue rich → world_weight most W + (40 * most + c) ≤ bound
  rich_low n = by rich n low
    where
      by : (b : Bool) → IsTrue b → world_weight most W + spare most b c ≤ bound → world_weight most W + (40 * most + c) ≤ bound
      by true n l = l
      by false n l = absurd (cc)

  -- one is resumed

  abbrev AfterResume : Made ResumeShape → Type 0
  AfterResume d = HoldsAfter most bound (after_resume c d.told) d.world

  module _ (rich_one : IsTrue rich) (n : IsTrue (nat_le 100 c)) where
    refuses : (text : List ℕ) (d : Made ResumeShape) → made W [] (refused text) ≡ Some d → AfterResume d
    refuses text = here AfterResume _ (plenty W refl (let k = enough n in omega arith))

    entered : (Q : World) → Q.functions ≡ W.functions → world_weight most Q + 5 ≡ world_weight most W + 3 → (t : CallShape) (V : World) → EnteredSo most Q t V → HoldsAfter most bound (after_resume c (resumed t)) V
    entered Q f q is_entered V k = plenty V (k.0 ∙ f) (let a = k.1 in let l = rich_low rich_one in let m = le_of 100 c n in omega arith)
    entered Q f q (is_primitive i) V k = record { within = within_in V (k.0 ∙ f); held = record { low = (let a = k.1 in let l = rich_low rich_one in omega arith); known = tt } }
    entered Q f q not_paid V k = absurd k
    entered Q f q (not_entered text) V k = plenty V (ap (λ (V : World). V.functions) k ∙ f) (let a = ap (world_weight most) k in let l = enough n in omega arith)

    fresh_so : (s : Stack) (co : ℕ) (body : Value) (vs : List Value) → Runs W s → slice_get W.coroutines co ≡ Some (fresh body) → (b : Bool) (d : Made ResumeShape)
        → cond b (made W [] (refused (codes "too many nested resumes"))) (bind (enters (go_into (wait_for_another W s) co []) body vs) (λ d. made d.world [] (resumed d.told))) ≡ Some d → AfterResume d
    fresh_so s co body vs r e true = refuses (codes "too many nested resumes")
    fresh_so s co body vs r e false = through AfterResume (enters (go_into (wait_for_another W s) co []) body vs) _ (λ m k. here AfterResume _
        (entered (go_into (wait_for_another W s) co []) (into_functions W s co []) (let w = into_weight most W s co (fresh body) [] r e (λ q. absurd (cc)) in omega arith) m.told m.world
        (enters_so most (go_into (wait_for_another W s) co []) body vs m k)))

    waiting_so : (s : Stack) (co : ℕ) (fs : List Frame) (vs : List Value) → Runs W s → slice_get W.coroutines co ≡ Some (suspended fs) → (b : Bool) (d : Made ResumeShape)
        → cond b (made W [] (refused (codes "too many nested resumes"))) (made (record (go_into (wait_for_another W s) co fs) { moving = vs }) [] (resumed is_entered)) ≡ Some d → AfterResume d
    waiting_so s co fs vs r e true = refuses (codes "too many nested resumes")
    waiting_so s co fs vs r e false = here AfterResume _ (plenty (record (go_into (wait_for_another W s) co fs) { moving = vs }) (into_functions W s co fs)
        (let w = into_weight most W s co (suspended fs) fs r e (λ q. absurd (cc)) in let l = enough n in omega arith))

    any_so : (s : Stack) (co : ℕ) (k : Coroutine) (vs : List Value) → Runs W s → slice_get W.coroutines co ≡ Some k → (d : Made ResumeShape) → resumes W s co k vs ≡ Some d → AfterResume d
    any_so s co (fresh body) vs r e = fresh_so s co body vs r e (nat_lt greatest_resumes (length W.chain))
    any_so s co (suspended fs) vs r e = waiting_so s co fs vs r e (nat_lt greatest_resumes (length W.chain))
    any_so s co (in_progress fs) vs r e = refuses (codes "cannot resume non-suspended coroutine")
    any_so s co (normal fs) vs r e = refuses (codes "cannot resume non-suspended coroutine")
    any_so s co dead vs r e = refuses (codes "cannot resume dead coroutine")
    any_so s co (failed v ps) vs r e = refuses (codes "cannot resume dead coroutine")

    pub resumed_so : (x : Arg) (slot : ℕ) (d : Made ResumeShape) → move (resume x slot) env W ≡ Some d → HoldsAfter most bound (after_resume c d.told) d.world
    resumed_so x slot = through AfterResume (stack_of W) _ (λ s e. through AfterResume (coroutine_number (arg env x)) _ (λ co m. through AfterResume (slice_get W.coroutines co) _ (λ k q. any_so s co k (drop slot env) (stack_runs W s e) q)))

  -- one is closed

  abbrev AfterBeginning : Made ResumeShape → Type 0
  AfterBeginning d = HoldsAfter most bound (after_beginning d.told) d.world

  module _ (n : IsTrue (nat_le 100 c)) where
    refuses_so : (text : List ℕ) (d : Made ResumeShape) → made W [] (refused text) ≡ Some d → AfterBeginning d
    refuses_so text = here AfterBeginning _ (plenty W refl (let k = enough n in omega arith))

    frame_so : (D : World) (s : Stack) (e : Option Value) (left : List Value) → D.functions ≡ W.functions → Runs D s → world_weight most D + 20 * length left ≤ world_weight most W → (b : Bool) (d : Made ResumeShape)
        → cond b (made (push D s (closing e left)) [] (resumed is_entered)) (made W [] (resumed (not_entered stack_overflow))) ≡ Some d → AfterBeginning d
    frame_so D s e left f r l true = here AfterBeginning _ (record {
      within = within_in (push D s (closing e left)) (push_functions D s (closing e left) ∙ f);
      held = record {
        low = (let k = push_weight most D s (closing e left) r in let a = enough n in omega arith);
        known = top_is (push D s (closing e left)) (record { coroutine = s.coroutine; frames = s.frames ++ closing e left ∷ [] }) (push_runs D s (closing e left) r) ∙ ap (λ x. Some (top_shape (push D s (closing e left)) x)) (last_push s.frames (closing e left));
      };
    })
    frame_so D s e left f r l false = here AfterBeginning _ (plenty W refl (let k = enough n in omega arith))

    -- the closed coroutine is another one
    apart : (s : Stack) (co : ℕ) (k : Coroutine) (cells : List Cell) → Runs W s → slice_get W.coroutines co ≡ Some k → (k ≡ in_progress s.frames → ⊥) → Runs (record W { cells = cells; coroutines = slice_set W.coroutines co dead }) s
    apart s co k cells r e q = record { last_is = r.last_is; there = get_set_other W.coroutines co s.coroutine dead (λ z. differ W s co k r e q (sym z)) ∙ r.there }

    dead_is : (co : ℕ) → put_coroutine W co dead ≡ record W { cells = W.cells; coroutines = slice_set W.coroutines co dead }
    unfolding put_coroutine
    dead_is co = refl

    put_so : (s : Stack) (co : ℕ) (k : Coroutine) (e : Option Value) (left : List Value) → Runs W s → slice_get W.coroutines co ≡ Some k → (k ≡ in_progress s.frames → ⊥) → 20 * length left ≤ coroutine_weight most k
        → (D : World) (cells : List Cell) → D ≡ record W { cells = cells; coroutines = slice_set W.coroutines co dead } → (d : Made ResumeShape) → closes_in W D s e left ≡ Some d → AfterBeginning d
    put_so s co k e left r g q l D cells i = subst (λ D. (d : Made ResumeShape) → closes_in W D s e left ≡ Some d → AfterBeginning d) (sym i)
        (frame_so (record W { cells = cells; coroutines = slice_set W.coroutines co dead }) s e left refl (apart s co k cells r g q) (let a = cos_set most W.coroutines co k dead g in omega arith) (has_room W 1))

    closes_so : (s : Stack) (co : ℕ) (k : Coroutine) → Runs W s → slice_get W.coroutines co ≡ Some k → (d : Made ResumeShape) → closes_coroutine W s co k ≡ Some d → AfterBeginning d
    closes_so s co (fresh body) r g = put_so s co (fresh body) None [] r g (λ q. absurd (cc)) (omega arith) (put_coroutine W co dead) W.cells (dead_is co)
    closes_so s co (suspended fs) r g = put_so s co (suspended fs) None (flat_map pending_values fs) r g (λ q. absurd (cc)) (pendings_weight most fs) (bury W co fs dead) (all_closed_from co 0 fs W.cells) (bury_is W co fs dead)
    closes_so s co (failed e left) r g = put_so s co (failed e left) (Some e) left r g (λ q. absurd (cc)) (omega arith) (put_coroutine W co dead) W.cells (dead_is co)
    closes_so s co dead r g = frame_so W s None [] refl r (omega arith) (has_room W 1)
    closes_so s co (in_progress fs) r g = refuses_so (codes "cannot close a running coroutine")
    closes_so s co (normal fs) r g = refuses_so (codes "cannot close a normal coroutine")

    pub begun_so : (x : Arg) (d : Made ResumeShape) → move (begin_closing x) env W ≡ Some d → HoldsAfter most bound (after_beginning d.told) d.world
    begun_so x = through AfterBeginning (stack_of W) _ (λ s e. through AfterBeginning (coroutine_number (arg env x)) _ (λ co m. through AfterBeginning (slice_get W.coroutines co) _ (λ k q. closes_so s co k (stack_runs W s e) q)))
