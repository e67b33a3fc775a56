-- Both worlds put the same place in front of an error's text.
use Rattle.std.proofs.Common.{ℕ, zero, suc, ◌≡◌, ◌⊎◌, inl, inr, List, [], ◌∷◌, Option, Some, None, refl, sym, ap, ◌∙◌, Bool, true, false}
use Rattle.std.specs.Prelude.{slice_get, reverse, filter_map}
use Rattle.std.proofs.lemmas.List.{reverse-reverse}
use Rattle.int_core.specs.Value.{bind}
use Rattle.int_core.specs.Limits.{position}
use Rattle.code_core.specs.Prototype.{Parts}
use Rattle.list_laws.specs.Held.{Held}
use Rattle.machine_core.specs.World as machine
use Rattle.machine_core.specs.World.{Activation, Frame, LuaFrame, lua, pcall, xpcall, handler, Stack, stack_of}
use Rattle.machine_core.specs.Moves.{frame_place, line_of, where_text}
use Rattle.machine_core.specs.Talk.{State}
use Rattle.lua_meaning.specs.World as talk
use Rattle.lua_meaning.specs.World.{Asker, waiting, raising, protected, handled_by, handling, position_of, positions_of, where_among, where_at}
use Rattle.machine_means.specs.Joined.{TalkFrame, TalkWorld, Dressed, PartsNamed, FunctionsPair, LuaPair, Pair, under, Below, Stacks}
use Rattle.machine_means.proofs.Pending.{both_first}

-- one frame's place
place_same : (source : Option (List ℕ)) (line : Option ℕ) (name : List ℕ) → (source ≡ Some name) ⊎ (source ≡ None)
    → bind source (λ text. bind line (λ line. Some (position text line))) ≡ bind (bind source (λ _. line)) (λ line. Some (position name line))
place_same source line name (inl e) = ap (λ o. bind o (λ text. bind line (λ line. Some (position text line)))) e ∙ sym (ap (λ o. bind (bind o (λ _. line)) (λ line. Some (position name line))) e)
place_same source line name (inr e) = ap (λ o. bind o (λ text. bind line (λ line. Some (position text line)))) e ∙ sym (ap (λ o. bind (bind o (λ _. line)) (λ line. Some (position name line))) e)

named_or_not : (has_lines : Bool) (name : List ℕ) (own : Parts) → PartsNamed has_lines name own → (own.source ≡ Some name) ⊎ (own.source ≡ None)
named_or_not true name own k = inl k
named_or_not false name own k = inr k.0

-- the text at a level, of places from the top
abbrev pub text_at : List (List ℕ) → ℕ → List ℕ
text_at places level = elim (slice_get places level) [ None ↦ [] | Some text ↦ text ]

abbrev pub put_in : Option (List ℕ) → List (List ℕ) → List (List ℕ)
put_in None xs = xs
put_in (Some x) xs = x ∷ xs

module _ (M : machine.World) (T : TalkWorld) (dressed : FunctionsPair M.functions T.functions) where
  lua_place : (lo : Bool) (fr : LuaFrame) (asker : Asker State) (h : Held) → LuaPair lo M.functions T.cells fr asker h
      → frame_place M (lua fr) ≡ bind (slice_get T.functions asker.function) (λ f. bind asker.line (λ line. Some (position f.source line)))
  lua_place lo fr asker h p =
      let a : Activation = p.0 in
      let s = p.1 in
      let g = both_first Dressed s.function (slice_get M.functions fr.function) (slice_get T.functions fr.function) s.there (dressed fr.function) in
      let pc : a.pc ≡ fr.own.pc = ap (λ (c : Activation). c.pc) s.own in
      let own = s.function.code.own in
      ap (λ o. bind o (λ f. bind f.code.own.source (λ name. bind (line_of f.code fr.own.pc) (λ line. Some (position name line))))) s.there
      ∙ place_same own.source (line_of s.function.code fr.own.pc) g.0.source (named_or_not g.0.has_lines g.0.source own g.2.named.own)
      ∙ ap (λ pc. bind (bind own.source (λ _. line_of s.function.code pc)) (λ line. Some (position g.0.source line))) (sym pc)
      ∙ ap (λ l. bind l (λ line. Some (position g.0.source line))) (sym s.at_line)
      ∙ ap (λ o. bind o (λ f. bind asker.line (λ line. Some (position f.source line)))) (sym (ap (slice_get T.functions) s.number ∙ g.1))

  pair_place : (lax : Bool) (m : Frame) (t : TalkFrame) (h : Held) → Pair lax M.functions T.cells m t h → frame_place M m ≡ position_of T t
  pair_place lax (lua fr) (waiting asker) h k = lua_place false fr asker h k
  pair_place true (lua fr) (raising asker) h k = lua_place true fr asker h k
  pair_place lax pcall protected h k = refl
  pair_place lax (xpcall x) (handled_by y) h k = refl
  pair_place lax handler handling h k = refl
  pair_place lax (machine.closing e us) (talk.closing d ws) h k = refl
  pair_place lax _ _ h k = absurd k

  one_more : (o p : Option (List ℕ)) → o ≡ p → (xs : List (List ℕ)) (ps : List (Option (List ℕ))) → ((n : ℕ) → text_at xs n ≡ where_among T n ps) → (n : ℕ) → text_at (put_in o xs) n ≡ where_among T n (p ∷ ps)
  one_more None None e xs ps ih n = ih n
  one_more (Some x) (Some y) e xs ps ih zero = cc
  one_more (Some x) (Some y) e xs ps ih (suc n) = ih n
  one_more None (Some y) e xs ps ih n = absurd (cc)
  one_more (Some x) None e xs ps ih n = absurd (cc)

  pub below_places : (lax : Bool) (ms : List Frame) (ts : List TalkFrame) (hs : List Held) → Below lax M.functions T.cells ms ts hs → (n : ℕ) → text_at (filter_map (frame_place M) ms) n ≡ where_among T n (positions_of T ts)
  below_places lax [] [] [] k n = refl
  below_places lax (m ∷ ms) (t ∷ ts) (h ∷ hs) k n =
      one_more (frame_place M m) (position_of T t) (pair_place lax m t h k.0) (filter_map (frame_place M) ms) (positions_of T ts) (below_places (under m) ms ts hs k.1) n
  below_places lax _ _ _ k n = absurd k

  -- of a whole stack
  pub where_same : (lax : Bool) (s : Stack) (hs : List Held) → stack_of M ≡ Some s → Stacks lax M.functions T.cells s.frames T.frames hs → (n : ℕ) → where_text M n ≡ where_at T n
  where_same lax s hs e k n =
      ap (λ o. elim (bind o (λ s. slice_get (filter_map (frame_place M) (reverse s.frames)) n)) as (λ _. List ℕ) [ None ↦ [] | Some text ↦ text ]) e
      ∙ ap (λ frames. text_at (filter_map (frame_place M) frames) n) (ap reverse k.listed ∙ reverse-reverse k.ms)
      ∙ below_places lax k.ms T.frames hs k.below n
