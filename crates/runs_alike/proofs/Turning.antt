-- Who answers an ask answers it alike in worlds that are dressed anew.
use Rattle.std.proofs.Common.{◌≡◌, ℕ, zero, suc, Bool, List, [], ◌∷◌, ◌++◌, length, Option, Some, None, refl, sym, ◌∙◌, ap, ap₂, subst, arith}
use Rattle.std.specs.Prelude.{slice_set, map, option_map, codes}
use Rattle.int_core.specs.Value.{Value, object, a_table, a_function, is_nil, nth, bind}
use Rattle.int_core.specs.Heap.{Heap, filled_table, add_table}
use Rattle.int_core.specs.Operations.{Settled, found as settled_as, ask, fault, cannot_arise, does, handler_in, of_close}
use Rattle.int_core.specs.Ask.{CellName, of_local, of_upvalue, returns, throws, Ask, reads_upvalue, writes_upvalue, makes_table, makes_function, fills_table, pays, opens, operates, calls, calls_last, marks, closes, raises, leaves, Reply, values, faulted, Answer, AskLike, FitsAsk, IsReplyTo, IsLeft, IsQuiet}
use Rattle.lua_meaning.specs.World.{System, Function, Asker, Frame, waiting, raising, World, on_frames, second, cell_of, answered, answered_at_once}
use Rattle.lua_meaning.specs.Asks.{one, none, cells_named, of_maker, made_in, gets_function, pays_unit, calls_for, calls_in_place, settled, handle}
use Rattle.runs_alike.proofs.Dressed.{Part, state, goes, dress_functions, dressed_asker, dress, dress_world, FunctionsLike, Body, AskerLike, Any, FramesLike, Like, Out, AsksAreMid, BeginAlike}
use Rattle.runs_alike.proofs.Moving.{same_out, either_out, frames_like, now_out, raises_out}
use Rattle.runs_alike.proofs.Answering.{answered_out, calls_out, count_second, fuel_like}
use Rattle.runs_alike.proofs.NewFunctions.{dress_more, functions_more, body_more, frames_more, coroutines_more}

module _ {A B S T : Type 0} (Sa : System A S) (Sb : System B T) (R : Bool → A → B → Type 0) (Q : Bool → A → B → S → T → Type 0) (asks : AsksAreMid Sa Sb R Q) (begins : BeginAlike Sa Sb R Q) where
  abbrev Both : World A S → World B T → Type 0
  Both X Y = Out Sa Sb R Q X Y

  abbrev Alike : World A S → List B → List (List (Part T)) → List (Part T) → Type 0
  Alike W bs xss xs = Like Sa Sb R Q W bs xss xs

  -- an asker of each side, and that both go on alike after each answer that fits
  pub record Pair (fs : List (Function A)) (bs : List B) (q : Ask A) (k : Asker S) (g : Answer → T) : Type 0 where
    pub body : Body Sa Sb R Q fs bs k.function
    pub on : (x : Answer) → FitsAsk q k.shared x → Q body.function.has_lines body.function.made_of body.code (k.goes x) (g x)
    pub pends : (x : Answer) → FitsAsk q k.shared x → IsLeft x.reply → Sb.pending body.code (g x) ≡ Sa.pending body.function.made_of (k.goes x)

  any_asker : (fs : List (Function A)) (bs : List B) (q : Ask A) (k : Asker S) (g : Answer → T) (quiet : IsQuiet q → ⊥) (reply : (r : Reply) → IsReplyTo q r)
      → Pair fs bs q k g → AskerLike Sa Sb R Q (Any Sa Sb R Q) fs bs k g
  any_asker fs bs q k g quiet reply pair =
      let fits : (x : Answer) → length x.shared ≡ length k.shared → FitsAsk q k.shared x = λ x count. record { reply = reply x.reply; count = count; kept = λ z. absurd (quiet z) } in
      record { body = pair.body; on = λ x any count. pair.on x (fits x count); pends = λ x is_left count. pair.pends x (fits x count) is_left }

  -- an answer at once
  once_out : (W : World A S) (bs : List B) (xss : List (List (Part T))) (xs : List (Part T)) (q : Ask A) (k : Asker S) (g : Answer → T) (cell : ℕ) (reply : Reply) (below : List (Frame S)) (ys : List (Part T))
      → Alike W bs xss xs → Pair W.functions bs q k g → IsReplyTo q reply → FramesLike Sa Sb R Q W.functions bs below ys
      → Both (answered_at_once W k cell reply below) (answered_at_once (dress_world W bs xss xs) (dressed_asker k g) cell reply (dress below ys))
  once_out W bs xss xs q k g cell reply below ys like pair fits rest =
      let x : Answer = record { reply = reply; shared = map second k.shared; cell = cell } in
      let f = pair.body.function in
      let next = pair.on x (record { reply = fits; count = count_second Sa Sb R Q asks begins k.shared; kept = λ z. refl }) in
      same_out Sa Sb R Q (answered_at_once W k cell reply below) bs xss (state (g x) ∷ ys)
      (record { functions = like.functions; coroutines = like.coroutines; frames = (record { body = pair.body; mid = asks f.has_lines f.made_of pair.body.code (k.goes x) (g x) next }, rest) })

  -- the heap or the cells have changed
  heap_like : (W : World A S) (bs : List B) (xss : List (List (Part T))) (xs : List (Part T)) (H : Heap) → Alike W bs xss xs → Alike (record W { heap = H }) bs xss xs
  heap_like W bs xss xs H like = record { functions = like.functions; coroutines = like.coroutines; frames = like.frames }

  cells_like : (W : World A S) (bs : List B) (xss : List (List (Part T))) (xs : List (Part T)) (cells : List Value) → Alike W bs xss xs → Alike (record W { cells = cells }) bs xss xs
  cells_like W bs xss xs cells like = record { functions = like.functions; coroutines = like.coroutines; frames = like.frames }

  calls_for_out : (W : World A S) (bs : List B) (xss : List (List (Part T))) (xs : List (Part T)) (k : Asker S) (g : Answer → T) (below : List (Frame S)) (ys : List (Part T)) (f : Value) (vs : List Value)
      → Alike W bs xss xs → AskerLike Sa Sb R Q (Any Sa Sb R Q) W.functions bs k g → FramesLike Sa Sb R Q W.functions bs below ys
      → Both (calls_for Sa W k below f vs) (calls_for Sb (dress_world W bs xss xs) (dressed_asker k g) (dress below ys) f vs)
  calls_for_out W bs xss xs k g below ys f vs like asker rest =
      calls_out Sa Sb R Q asks begins (on_frames W (waiting k ∷ below)) bs xss (goes g ∷ ys) f vs (λ why V. answered V k (faulted why) below) (λ why V. answered V (dressed_asker k g) (faulted why) (dress below ys))
      (frames_like Sa Sb R Q W bs xss xs (waiting k ∷ below) (goes g ∷ ys) like (asker, rest))
      (λ why fuel. answered_out Sa Sb R Q asks begins (Any Sa Sb R Q) (record W { fuel = fuel }) bs xss xs k g (faulted why) below ys (fuel_like Sa Sb R Q asks begins W bs xss xs fuel like) asker tt rest)

  in_place_out : (W : World A S) (bs : List B) (xss : List (List (Part T))) (xs : List (Part T)) (k : Asker S) (g : Answer → T) (below : List (Frame S)) (ys : List (Part T)) (f : Value) (vs : List Value)
      → Alike W bs xss xs → Pair W.functions bs (calls_last f vs) k g → FramesLike Sa Sb R Q W.functions bs below ys
      → Both (calls_in_place Sa W k below f vs) (calls_in_place Sb (dress_world W bs xss xs) (dressed_asker k g) (dress below ys) f vs)
  in_place_out W bs xss xs k g below ys f vs like pair rest =
      calls_out Sa Sb R Q asks begins (on_frames W below) bs xss ys f vs (λ why V. answered_at_once V k 0 (faulted why) below) (λ why V. answered_at_once V (dressed_asker k g) 0 (faulted why) (dress below ys))
      (frames_like Sa Sb R Q W bs xss xs below ys like rest)
      (λ why fuel. once_out (record W { fuel = fuel }) bs xss xs (calls_last f vs) k g 0 (faulted why) below ys (fuel_like Sa Sb R Q asks begins W bs xss xs fuel like) pair tt rest)

  settled_out : (W : World A S) (bs : List B) (xss : List (List (Part T))) (xs : List (Part T)) (k : Asker S) (g : Answer → T) (below : List (Frame S)) (ys : List (Part T)) (o : Settled)
      → Alike W bs xss xs → AskerLike Sa Sb R Q (Any Sa Sb R Q) W.functions bs k g → FramesLike Sa Sb R Q W.functions bs below ys
      → Both (settled Sa W k below o) (settled Sb (dress_world W bs xss xs) (dressed_asker k g) (dress below ys) o)
  settled_out W bs xss xs k g below ys (settled_as H vs) like asker rest =
      answered_out Sa Sb R Q asks begins (Any Sa Sb R Q) (record W { heap = H }) bs xss xs k g (values vs) below ys (heap_like W bs xss xs H like) asker tt rest
  settled_out W bs xss xs k g below ys (ask h vs) like asker rest = calls_for_out W bs xss xs k g below ys h vs like asker rest
  settled_out W bs xss xs k g below ys (fault why) like asker rest = answered_out Sa Sb R Q asks begins (Any Sa Sb R Q) W bs xss xs k g (faulted why) below ys like asker tt rest
  settled_out W bs xss xs k g below ys cannot_arise like asker rest = now_out Sa Sb R Q W bs xss xs _ like

  pub opt_out : {C : Type 0} → (o p : Option C) (X : World A S) (Y : World B T) (F : C → World A S) (G : C → World B T) → p ≡ o → Both X Y → ((c : C) → Both (F c) (G c))
      → Both (elim o as (λ _. World A S) [ None ↦ X | Some c ↦ F c ]) (elim p as (λ _. World B T) [ None ↦ Y | Some c ↦ G c ])
  opt_out {C = C} o p X Y F G e first more = subst (λ z. Both (elim o as (λ _. World A S) [ None ↦ X | Some c ↦ F c ]) (elim z as (λ _. World B T) [ None ↦ Y | Some c ↦ G c ])) (sym e) (by o) where
    by : (z : Option C) → Both (elim z as (λ _. World A S) [ None ↦ X | Some c ↦ F c ]) (elim z as (λ _. World B T) [ None ↦ Y | Some c ↦ G c ])
    by None = first
    by (Some c) = more c

  cell_same : (W : World A S) (bs : List B) (xss : List (List (Part T))) (xs : List (Part T)) (f u : ℕ) → Body Sa Sb R Q W.functions bs f → cell_of (dress_world W bs xss xs) f u ≡ cell_of W f u
  cell_same W bs xss xs f u body = rw (body.there, body.there_too) refl

  cells_same : (W : World A S) (bs : List B) (xss : List (List (Part T))) (xs : List (Part T)) (f : ℕ) (names : List CellName) → Body Sa Sb R Q W.functions bs f
      → cells_named (dress_world W bs xss xs) f names ≡ cells_named W f names
  cells_same W bs xss xs f [] body = refl
  cells_same W bs xss xs f (of_local c ∷ names) body = ap (option_map (λ cells. c ∷ cells)) (cells_same W bs xss xs f names body)
  cells_same W bs xss xs f (of_upvalue u ∷ names) body =
      ap₂ (λ o cs. bind o (λ c. option_map (λ cells. c ∷ cells) cs)) (cell_same W bs xss xs f u body) (cells_same W bs xss xs f names body)

  unit_out : (m : ℕ) (W : World A S) (bs : List B) (xss : List (List (Part T))) (xs : List (Part T)) (k : Asker S) (g : Answer → T) (below : List (Frame S)) (ys : List (Part T))
      → Alike W bs xss xs → Pair W.functions bs pays k g → FramesLike Sa Sb R Q W.functions bs below ys
      → Both (pays_unit m W k below) (pays_unit m (dress_world W bs xss xs) (dressed_asker k g) (dress below ys))
  unit_out zero W bs xss xs k g below ys like pair rest = now_out Sa Sb R Q W bs xss xs _ like
  unit_out (suc m) W bs xss xs k g below ys like pair rest =
      once_out (record W { fuel = m }) bs xss xs pays k g 0 none below ys (fuel_like Sa Sb R Q asks begins W bs xss xs m like) pair tt rest

  pub count_functions : (fs : List (Function A)) (bs : List B) → FunctionsLike Sa Sb R Q fs bs → length (dress_functions fs bs) ≡ length fs
  count_functions [] [] like = refl
  count_functions (f ∷ fs) (b ∷ bs) like = let h = count_functions fs bs like.1 in omega (arith, h)
  count_functions [] (b ∷ bs) like = absurd like
  count_functions (f ∷ fs) [] like = absurd like

  -- a new function
  made_out : (W : World A S) (bs : List B) (xss : List (List (Part T))) (xs : List (Part T)) (a : A) (b : B) (names : List CellName) (cells : List ℕ) (k : Asker S) (g : Answer → T) (below : List (Frame S)) (ys : List (Part T))
      → Alike W bs xss xs → (pair : Pair W.functions bs (makes_function a names) k g) → R pair.body.function.has_lines a b → FramesLike Sa Sb R Q W.functions bs below ys
      → Both (gets_function W k below (Some (of_maker pair.body.function a cells))) (gets_function (dress_world W bs xss xs) (dressed_asker k g) (dress below ys) (Some (of_maker pair.body.function b cells)))
  made_out W bs xss xs a b names cells k g below ys like pair means rest =
      let made = of_maker pair.body.function a cells in
      let X = record W { functions = W.functions ++ made ∷ [] } in
      let there = functions_more Sa Sb R Q W.functions bs made b like.functions means in
      subst (λ z. Both (gets_function W k below (Some made))
      (answered_at_once (record (dress_world W bs xss xs) { functions = z }) (dressed_asker k g) 0 (one (object a_function (length (dress_functions W.functions bs)))) (dress below ys))) (sym (dress_more Sa Sb R Q W.functions bs made b like.functions))
      (subst (λ c. Both (gets_function W k below (Some made))
      (answered_at_once (dress_world X (bs ++ b ∷ []) xss xs) (dressed_asker k g) 0 (one (object a_function c)) (dress below ys))) (sym (count_functions W.functions bs like.functions))
      (once_out X (bs ++ b ∷ []) xss xs (makes_function a names) k g 0 (one (object a_function (length W.functions))) below ys
      (record {
        functions = there;
        coroutines = coroutines_more Sa Sb R Q W.functions bs made b W.coroutines xss like.functions like.coroutines;
        frames = frames_more Sa Sb R Q W.functions bs made b W.frames xs like.functions like.frames;
      })
      (record { body = body_more Sa Sb R Q W.functions bs made b k.function like.functions pair.body; on = pair.on; pends = pair.pends }) tt
      (frames_more Sa Sb R Q W.functions bs made b below ys like.functions rest)))

  makes_out : (W : World A S) (bs : List B) (xss : List (List (Part T))) (xs : List (Part T)) (a : A) (b : B) (names : List CellName) (k : Asker S) (g : Answer → T) (below : List (Frame S)) (ys : List (Part T))
      → Alike W bs xss xs → (pair : Pair W.functions bs (makes_function a names) k g) → R pair.body.function.has_lines a b → FramesLike Sa Sb R Q W.functions bs below ys
      → Both (handle Sa (makes_function a names) W k below) (handle Sb (makes_function b names) (dress_world W bs xss xs) (dressed_asker k g) (dress below ys))
  makes_out W bs xss xs a b names k g below ys like pair means rest =
      let V = dress_world W bs xss xs in
      let f = pair.body.function in
      let made : made_in W k.function a names ≡ option_map (of_maker f a) (cells_named W k.function names) = ap (λ o. bind o (λ h. option_map (of_maker h a) (cells_named W k.function names))) pair.body.there in
      let made_too : made_in V k.function b names ≡ option_map (of_maker f b) (cells_named W k.function names) =
      ap (λ o. bind o (λ h. option_map (of_maker h b) (cells_named V k.function names))) pair.body.there_too
      ∙ ap (λ cs. option_map (of_maker f b) cs) (cells_same W bs xss xs k.function names pair.body) in
      subst (λ o. Both (gets_function W k below o) (gets_function V (dressed_asker k g) (dress below ys) (made_in V k.function b names))) (sym made)
      (subst (λ o. Both (gets_function W k below (option_map (of_maker f a) (cells_named W k.function names))) (gets_function V (dressed_asker k g) (dress below ys) o)) (sym made_too)
      (by (cells_named W k.function names)))
    where
      by : (o : Option (List ℕ)) → Both (gets_function W k below (option_map (of_maker pair.body.function a) o))
          (gets_function (dress_world W bs xss xs) (dressed_asker k g) (dress below ys) (option_map (of_maker pair.body.function b) o))
      by None = now_out Sa Sb R Q W bs xss xs _ like
      by (Some cells) = made_out W bs xss xs a b names cells k g below ys like pair means rest

  pub handle_out : (W : World A S) (bs : List B) (xss : List (List (Part T))) (xs : List (Part T)) (q : Ask A) (r : Ask B) (k : Asker S) (g : Answer → T) (below : List (Frame S)) (ys : List (Part T))
      → Alike W bs xss xs → (pair : Pair W.functions bs q k g) → AskLike (R pair.body.function.has_lines) q r → FramesLike Sa Sb R Q W.functions bs below ys
      → Both (handle Sa q W k below) (handle Sb r (dress_world W bs xss xs) (dressed_asker k g) (dress below ys))
  handle_out W bs xss xs (reads_upvalue u) (reads_upvalue v) k g below ys like pair same rest =
      subst (λ z. Both (handle Sa (reads_upvalue u) W k below) (handle Sb (reads_upvalue z) (dress_world W bs xss xs) (dressed_asker k g) (dress below ys))) same
      (opt_out (cell_of W k.function u) (cell_of (dress_world W bs xss xs) k.function u) _ _ _ _ (cell_same W bs xss xs k.function u pair.body) (now_out Sa Sb R Q W bs xss xs _ like)
      (λ c. once_out W bs xss xs (reads_upvalue u) k g 0 (one (nth W.cells c)) below ys like pair tt rest))
  handle_out W bs xss xs (writes_upvalue u v) (writes_upvalue w x) k g below ys like pair same rest =
      let e : ◌≡◌ {A = Ask B} (writes_upvalue u v) (writes_upvalue w x) = rw (same.0, same.1) refl in
      subst (λ z. Both (handle Sa (writes_upvalue u v) W k below) (handle Sb z (dress_world W bs xss xs) (dressed_asker k g) (dress below ys))) e
      (opt_out (cell_of W k.function u) (cell_of (dress_world W bs xss xs) k.function u) _ _ _ _ (cell_same W bs xss xs k.function u pair.body) (now_out Sa Sb R Q W bs xss xs _ like)
      (λ c. once_out (record W { cells = slice_set W.cells c v }) bs xss xs (writes_upvalue u v) k g 0 none below ys (cells_like W bs xss xs (slice_set W.cells c v) like) pair tt rest))
  handle_out W bs xss xs makes_table makes_table k g below ys like pair same rest =
      once_out (record W { heap = add_table W.heap }) bs xss xs makes_table k g 0 (one (object a_table (length W.heap.tables))) below ys (heap_like W bs xss xs (add_table W.heap) like) pair tt rest
  handle_out W bs xss xs (makes_function a names) (makes_function b others) k g below ys like pair same rest =
      subst (λ z. Both (handle Sa (makes_function a names) W k below) (handle Sb (makes_function b z) (dress_world W bs xss xs) (dressed_asker k g) (dress below ys))) same.1
      (makes_out W bs xss xs a b names k g below ys like pair same.0 rest)
  handle_out W bs xss xs (fills_table t last vs) (fills_table u from ws) k g below ys like pair same rest =
      let e : ◌≡◌ {A = Ask B} (fills_table t last vs) (fills_table u from ws) = rw (same.0, same.1.0, same.1.1) refl in
      subst (λ z. Both (handle Sa (fills_table t last vs) W k below) (handle Sb z (dress_world W bs xss xs) (dressed_asker k g) (dress below ys))) e
      (opt_out (filled_table W.heap t last vs) (filled_table W.heap t last vs) _ _ _ _ refl (now_out Sa Sb R Q W bs xss xs _ like)
      (λ H. once_out (record W { heap = H }) bs xss xs (fills_table t last vs) k g 0 none below ys (heap_like W bs xss xs H like) pair tt rest))
  handle_out W bs xss xs pays pays k g below ys like pair same rest = unit_out W.fuel W bs xss xs k g below ys like pair rest
  handle_out W bs xss xs (opens v) (opens w) k g below ys like pair same rest =
      subst (λ z. Both (handle Sa (opens v) W k below) (handle Sb (opens z) (dress_world W bs xss xs) (dressed_asker k g) (dress below ys))) same
      (once_out (record W { cells = W.cells ++ v ∷ [] }) bs xss xs (opens v) k g (length W.cells) none below ys (cells_like W bs xss xs (W.cells ++ v ∷ []) like) pair tt rest)
  handle_out W bs xss xs (operates op vs) (operates other ws) k g below ys like pair same rest =
      let e : ◌≡◌ {A = Ask B} (operates op vs) (operates other ws) = rw (same.0, same.1) refl in
      subst (λ z. Both (handle Sa (operates op vs) W k below) (handle Sb z (dress_world W bs xss xs) (dressed_asker k g) (dress below ys))) e
      (settled_out W bs xss xs k g below ys (does op vs W.heap) like (any_asker W.functions bs (operates op vs) k g (λ z. z) (λ z. tt) pair) rest)
  handle_out W bs xss xs (calls f vs) (calls h ws) k g below ys like pair same rest =
      let e : ◌≡◌ {A = Ask B} (calls f vs) (calls h ws) = rw (same.0, same.1) refl in
      subst (λ z. Both (handle Sa (calls f vs) W k below) (handle Sb z (dress_world W bs xss xs) (dressed_asker k g) (dress below ys))) e
      (calls_for_out W bs xss xs k g below ys f vs like (any_asker W.functions bs (calls f vs) k g (λ z. z) (λ z. tt) pair) rest)
  handle_out W bs xss xs (calls_last f vs) (calls_last h ws) k g below ys like pair same rest =
      let e : ◌≡◌ {A = Ask B} (calls_last f vs) (calls_last h ws) = rw (same.0, same.1) refl in
      subst (λ z. Both (handle Sa (calls_last f vs) W k below) (handle Sb z (dress_world W bs xss xs) (dressed_asker k g) (dress below ys))) e
      (in_place_out W bs xss xs k g below ys f vs like pair rest)
  handle_out W bs xss xs (marks v name) (marks w other) k g below ys like pair same rest =
      let e : ◌≡◌ {A = Ask B} (marks v name) (marks w other) = rw (same.0, same.1) refl in
      subst (λ z. Both (handle Sa (marks v name) W k below) (handle Sb z (dress_world W bs xss xs) (dressed_asker k g) (dress below ys))) e
      (either_out Sa Sb R Q (is_nil (handler_in W.heap of_close v)) _ _ _ _
      (once_out W bs xss xs (marks v name) k g 0 (faulted (codes "variable '" ++ name ++ codes "' got a non-closable value")) below ys like pair tt rest)
      (once_out W bs xss xs (marks v name) k g 0 none below ys like pair tt rest))
  handle_out W bs xss xs (closes v err) (closes w h) k g below ys like pair same rest =
      let e : ◌≡◌ {A = Ask B} (closes v err) (closes w h) = rw (same.0, same.1) refl in
      subst (λ z. Both (handle Sa (closes v err) W k below) (handle Sb z (dress_world W bs xss xs) (dressed_asker k g) (dress below ys))) e
      (calls_for_out W bs xss xs k g below ys (handler_in W.heap of_close v) (v ∷ err ∷ []) like
      (any_asker W.functions bs (closes v err) k g (λ z. z) (λ z. tt) pair) rest)
  handle_out W bs xss xs (raises why) (raises other) k g below ys like pair same rest =
      subst (λ z. Both (handle Sa (raises why) W k below) (handle Sb (raises z) (dress_world W bs xss xs) (dressed_asker k g) (dress below ys))) same
      (raises_out Sa Sb R Q why (on_frames W (raising k ∷ below)) bs xss (goes g ∷ ys)
      (frames_like Sa Sb R Q W bs xss xs (raising k ∷ below) (goes g ∷ ys) like
      (record { body = pair.body; on = λ x is_left count. pair.on x (record { reply = is_left; count = count; kept = λ z. absurd z }); pends = λ x is_left count. pair.pends x (record { reply = is_left; count = count; kept = λ z. absurd z }) is_left }, rest)))
  handle_out W bs xss xs (leaves (returns vs)) (leaves m) k g below ys like pair same rest =
      subst (λ z. Both (handle Sa (leaves (returns vs)) W k below) (handle Sb (leaves z) (dress_world W bs xss xs) (dressed_asker k g) (dress below ys))) same
      (now_out Sa Sb R Q (on_frames W below) bs xss ys _ (frames_like Sa Sb R Q W bs xss xs below ys like rest))
  handle_out W bs xss xs (leaves (throws e)) (leaves m) k g below ys like pair same rest =
      subst (λ z. Both (handle Sa (leaves (throws e)) W k below) (handle Sb (leaves z) (dress_world W bs xss xs) (dressed_asker k g) (dress below ys))) same
      (now_out Sa Sb R Q (on_frames W below) bs xss ys _ (frames_like Sa Sb R Q W bs xss xs below ys like rest))
  handle_out W bs xss xs q r k g below ys like pair same rest = absurd same
