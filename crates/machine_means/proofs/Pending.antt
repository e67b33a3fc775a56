-- What a stack of frames still has to close is the same in both worlds, in the other order.
use Rattle.std.proofs.Common.{ℕ, ◌<◌, ◌≡◌, List, [], ◌∷◌, ◌++◌, length, Option, Some, None, refl, sym, ap, subst, ◌∙◌, Bool, true, false}
use Rattle.std.specs.Prelude.{slice_get, map, flat_map, reverse}
use Rattle.std.proofs.lemmas.List.{reverse-append, reverse-reverse}
use Rattle.std.proofs.lemmas.List.Concat.{flat_map-cons}
use Rattle.std.proofs.lemmas.Grind.{flat_map-append}
use Rattle.int_core.specs.Value.{Value, known, nil, nth}
use Rattle.int_core.specs.Ask.{Answer, left, brought}
use Rattle.list_laws.specs.Held.{Held}
use Rattle.list_laws.proofs.Ends.{upward}
use Rattle.list_laws.proofs.Items.{append_nil}
use Rattle.machine_core.specs.World as machine
use Rattle.machine_core.specs.World.{Activation, LuaFrame, lua, pcall, xpcall, handler}
use Rattle.machine_core.specs.Moves.{pending_values}
use Rattle.machine_core.specs.Talk.{State}
use Rattle.lua_meaning.specs.World as talk
use Rattle.lua_meaning.specs.World.{Asker, waiting, raising, protected, handled_by, handling, shared_out}
use Rattle.lua_meaning.specs.Calls.{left_now, pending_of, pending_in, all_pending}
use Rattle.code_means.specs.Runs.{codes_run, to_close}
use Rattle.machine_sound.specs.Sound.{Each, Sizes, FrameOk}
use Rattle.machine_sound.proofs.Lists.{each_front, each_last, some_is}
use Rattle.machine_means.specs.Joined.{TalkFrame, TalkWorld, Dressed, Both, FunctionsPair, IsHeard, LuaPair, Pair, under, Below, Stacks}
use Rattle.machine_means.proofs.Held.{reverse_is}
use Rattle.machine_means.proofs.Sharing.{share_in}
use Rattle.machine_means.proofs.StillPending.{closed_is}

-- what stands beside an item
pub both_first : {A B : Type 0} (R : A → B → Type 0) (x : A) (p : Option A) (q : Option B) → p ≡ Some x → Both R p q → (y : B) × (q ≡ Some y) × R x y
both_first R x (Some a) (Some b) e k = (b, refl, subst (λ a. R a b) (let d : a ≡ x = cc in d) k)
both_first R x (Some a) None e k = absurd k
both_first R x None q e k = absurd (cc)

same_values : (xs ys : List Value) (rs : List ℕ) → ((r : ℕ) → nth xs r ≡ nth ys r) → map (nth xs) rs ≡ map (nth ys) rs
same_values xs ys [] e = refl
same_values xs ys (r ∷ rs) e = ap (λ x. x ∷ map (nth xs) rs) (e r) ∙ ap (λ l. nth ys r ∷ l) (same_values xs ys rs e)

-- every frame's pending registers are among its code's
abbrev pub Bounded : List machine.Function → machine.Frame → Type 0
Bounded fs (lua fr) = (g : machine.Function) → slice_get fs fr.function ≡ Some g → Each (λ r. r < g.code.own.stack) fr.own.pending
Bounded fs _ = Unit {0}

pub bounded_ok : (z : Sizes) (m : machine.Frame) → FrameOk z m → Bounded z.functions m
bounded_ok z (lua fr) k = λ g e. subst (λ (h : machine.Function). Each (λ r. r < h.code.own.stack) fr.own.pending) (some_is k.there e) k.pending
bounded_ok z _ k = tt

module _ (fs : List machine.Function) (T : TalkWorld) (dressed : FunctionsPair fs T.functions) where
  heard : (lo : Bool) → IsHeard lo (left (known nil))
  heard true = tt
  heard false = tt

  lua_pending : (lo : Bool) (fr : LuaFrame) (asker : Asker State) (h : Held) → Bounded fs (lua fr) → LuaPair lo fs T.cells fr asker h → pending_of codes_run T asker ≡ reverse (map (nth fr.own.registers) fr.own.pending)
  lua_pending lo fr asker h bound p =
      let a : Activation = p.0 in
      let s = p.1 in
      let k = p.2 in
      let g = both_first Dressed s.function (slice_get fs fr.function) (slice_get T.functions fr.function) s.there (dressed fr.function) in
      let x : Answer = record { reply = left (known nil); shared = shared_out asker.shared T.cells; cell = 0 } in
      let i = share_in h a.registers fr.own.registers T.cells a.registers s.gone k.size k.off k.on in
      let rs : List Value = brought h (shared_out asker.shared T.cells) a.registers in
      let b : Activation = record a { registers = rs } in
      let same : (r : ℕ) → nth rs r ≡ nth fr.own.registers r = λ r. ap (λ sh. nth (brought h (shared_out sh T.cells) a.registers) r) s.shares ∙ i.0 r in
      let pending : a.pending ≡ fr.own.pending = ap (λ (c : Activation). c.pending) s.own in
      let there : slice_get T.functions asker.function ≡ Some g.0 = ap (slice_get T.functions) s.number ∙ g.1 in
      ap (λ o. elim o as (λ _. List Value) [ None ↦ [] | Some f ↦ to_close f.made_of (left_now T.cells asker) ]) there
      ∙ ap (λ q. to_close q (left_now T.cells asker)) g.2.code
      ∙ ap (to_close s.function.code) (s.next x (heard lo))
      ∙ closed_is s.function.code (length a.pending) b refl (subst (Each (λ r. r < s.function.code.own.stack)) (sym pending) (bound s.function s.there))
      ∙ ap reverse (same_values rs fr.own.registers a.pending same)
      ∙ ap (λ q. reverse (map (nth fr.own.registers) q)) pending

  frame_pending : (lax : Bool) (m : machine.Frame) (t : TalkFrame) (h : Held) → Bounded fs m → Pair lax fs T.cells m t h → pending_values m ≡ reverse (pending_in codes_run T t)
  frame_pending lax (lua fr) (waiting asker) h b k = sym (ap reverse (lua_pending false fr asker h b k) ∙ reverse-reverse (map (nth fr.own.registers) fr.own.pending))
  frame_pending true (lua fr) (raising asker) h b k = sym (ap reverse (lua_pending true fr asker h b k) ∙ reverse-reverse (map (nth fr.own.registers) fr.own.pending))
  frame_pending lax pcall protected h b k = refl
  frame_pending lax (xpcall x) (handled_by y) h b k = refl
  frame_pending lax handler handling h b k = refl
  frame_pending lax (machine.closing e us) (talk.closing d xs) h b k = refl
  frame_pending lax _ _ h b k = absurd k

  flat_behind : (xs : List machine.Frame) (x : machine.Frame) → flat_map pending_values (xs ++ x ∷ []) ≡ flat_map pending_values xs ++ pending_values x
  flat_behind xs x = flat_map-append pending_values xs (x ∷ []) ∙ ap (λ l. flat_map pending_values xs ++ l) (flat_map-cons pending_values x [] ∙ append_nil (pending_values x))

  below_pending : (lax : Bool) (ms : List machine.Frame) (ts : List TalkFrame) (hs : List Held) → Each (Bounded fs) (upward ms) → Below lax fs T.cells ms ts hs → flat_map pending_values (upward ms) ≡ reverse (all_pending codes_run T ts)
  below_pending lax [] [] [] b k = refl
  below_pending lax (m ∷ ms) (t ∷ ts) (h ∷ hs) b k =
      flat_behind (upward ms) m ∙ ap (λ l. l ++ pending_values m) (below_pending (under m) ms ts hs (each_front (Bounded fs) (upward ms) (m ∷ []) b) k.1)
      ∙ ap (λ l. reverse (all_pending codes_run T ts) ++ l) (frame_pending lax m t h (each_last (Bounded fs) (upward ms) m b) k.0)
      ∙ sym (reverse-append (pending_in codes_run T t) (all_pending codes_run T ts))
  below_pending lax _ _ _ b k = absurd k

  -- of a whole stack
  pub stack_pending : (lax : Bool) (frames : List machine.Frame) (ts : List TalkFrame) (hs : List Held) → Each (Bounded fs) frames → Stacks lax fs T.cells frames ts hs → flat_map pending_values frames ≡ reverse (all_pending codes_run T ts)
  stack_pending lax frames ts hs b s =
      let up : frames ≡ upward s.ms = s.listed ∙ reverse_is s.ms in
      ap (flat_map pending_values) up ∙ below_pending lax s.ms ts hs (subst (Each (Bounded fs)) up b) s.below
