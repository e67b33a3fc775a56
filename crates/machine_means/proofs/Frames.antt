-- The running coroutine gets another stack of frames, which holds the same cells: one frame more or one less.
use Rattle.std.proofs.Common.{ℕ, suc, ◌≤◌, ◌≡◌, inr, ⊎_elim, List, [], ◌∷◌, ◌++◌, length, Some, None, refl, sym, ap, subst, ◌∙◌, arith, Bool, false}
use Rattle.std.specs.Prelude.{slice_get, slice_set}
use Rattle.std.proofs.lemmas.Bool.{cases_eq}
use Rattle.int_core.specs.Value.{Value, last, without_last}
use Rattle.list_laws.specs.Held.{Held}
use Rattle.list_laws.proofs.Ends.{upward, last_is, without_last_is, length_upward}
use Rattle.list_laws.proofs.Items.{get_set_same, get_set_other}
use Rattle.machine_core.specs.World as machine
use Rattle.machine_core.specs.World.{Cell, Frame, in_progress, push, pop, put_frames}
use Rattle.int_core.specs.Limits.{greatest_depth}
use Rattle.machine_core.specs.Talk.{State}
use Rattle.lua_meaning.specs.World as talk
use Rattle.lua_meaning.specs.World.{on_frames}
use Rattle.machine_sound.proofs.Lists.{some_is}
use Rattle.machine_means.specs.Joined.{TalkFrame, TalkWorld, Pair, under, Below, Stacks, CoroutinePair, CoroutinesPair, Holds, HoldsOf, HoldsIn, CellsPair, Joined}
use Rattle.machine_means.proofs.Held.{reverse_is}
use Rattle.machine_means.proofs.CellWrites.{all3_first}
use Rattle.machine_means.proofs.Switches.{OnlyRuns, co_put, set_same, running_is}
use Rattle.machine_means.proofs.Rejoined.{rejoined}

abbrev pub HoldsSame : List Held → List Held → Type 0
HoldsSame hs hs' = ((f r c : ℕ) → Holds f r c hs → Holds f r c hs') × ((f r c : ℕ) → Holds f r c hs' → Holds f r c hs)

-- a frame that holds nothing
pub holds_nothing : (hs : List Held) → HoldsSame hs ([] ∷ hs)
holds_nothing hs = ((λ f r c n. inr n), (λ f r c n. ⊎_elim (λ m. absurd m.1) (λ m. m) n))

pub holds_back : (hs hs' : List Held) → HoldsSame hs hs' → HoldsSame hs' hs
holds_back hs hs' s = (s.1, s.0)

module _ (ws : List Cell) (vs : List Value) (hss : List (List Held)) (k : CellsPair ws vs hss) (co : ℕ) (hs hs' : List Held) (e : slice_get hss co ≡ Some hs) (s : HoldsSame hs hs') where
  there : (i f r c : ℕ) → HoldsIn hss i f r c → HoldsIn (slice_set hss co hs') i f r c
  there i f r c n = ⊎_elim
      (λ (q : co ≡ i). subst (λ o. HoldsOf o f r c) (sym (ap (slice_get (slice_set hss co hs')) (sym q) ∙ get_set_same hss co hs hs' e)) (s.0 f r c (subst (λ o. HoldsOf o f r c) (ap (slice_get hss) (sym q) ∙ e) n)))
      (λ q. subst (λ o. HoldsOf o f r c) (sym (get_set_other hss co i hs' q)) n)
      (cases_eq co i)

  back : (i f r c : ℕ) → HoldsIn (slice_set hss co hs') i f r c → HoldsIn hss i f r c
  back i f r c n = ⊎_elim
      (λ (q : co ≡ i). subst (λ o. HoldsOf o f r c) (sym (ap (slice_get hss) (sym q) ∙ e)) (s.1 f r c (subst (λ o. HoldsOf o f r c) (ap (slice_get (slice_set hss co hs')) (sym q) ∙ get_set_same hss co hs hs' e) n)))
      (λ q. subst (λ o. HoldsOf o f r c) (get_set_other hss co i hs' q) n)
      (cases_eq co i)

  pub cells_hold : CellsPair ws vs (slice_set hss co hs')
  cells_hold = record {
    size = k.size;
    shut = k.shut;
    opened = λ c i f r g. there i f r c (k.opened c i f r g);
    held_open = λ c i f r n. k.held_open c i f r (back i f r c n);
    one = k.one;
  }

module _ (M : machine.World) (T : TalkWorld) (co : ℕ) (frames : List Frame) (lax : Bool) (k : Joined lax M T) (runs : slice_get M.coroutines co ≡ Some (in_progress frames)) (only : OnlyRuns M.coroutines co) where
  abbrev run : List Frame → List Held → Type 0
  run fr hs = Stacks lax M.functions T.cells fr T.frames hs

  pub found : (y : talk.Coroutine State) × (hs : List Held) × (slice_get T.coroutines co ≡ Some y) × (slice_get k.held co ≡ Some hs) × CoroutinePair M.functions T.cells run (in_progress frames) y hs
  found = all3_first (CoroutinePair M.functions T.cells run) (in_progress frames) (slice_get M.coroutines co) (slice_get T.coroutines co) (slice_get k.held co) runs (k.coroutines co)

  pub own_stack : (hs : List Held) × (slice_get k.held co ≡ Some hs) × Stacks lax M.functions T.cells frames T.frames hs
  own_stack = let p = found in (p.1, p.3, (running_is M.functions T.cells run frames p.0 p.1 p.4).1)

  pub frames_put : (lax' : Bool) (frames' : List Frame) (ts' : List TalkFrame) (hs hs' : List Held) → slice_get k.held co ≡ Some hs → HoldsSame hs hs' → Stacks lax' M.functions T.cells frames' ts' hs'
      → Joined lax' (record M { coroutines = slice_set M.coroutines co (in_progress frames') }) (on_frames T ts')
  frames_put lax' frames' ts' hs hs' e s st =
      let p = found in
      let r = running_is M.functions T.cells run frames p.0 p.1 p.4 in
      let talks : slice_get T.coroutines co ≡ Some talk.running = p.2 ∙ ap Some r.0 in
      rejoined lax lax' M T k M.cells (slice_set M.coroutines co (in_progress frames')) M.chain M.moving M.fuel T.cells T.coroutines T.chain ts' T.now T.fuel (slice_set k.held co hs') k.fuel k.chain
      (cells_hold M.cells T.cells k.held k.cells co hs hs' e s)
      (subst (λ ds. CoroutinesPair M.functions T.cells (λ fr hs. Stacks lax' M.functions T.cells fr ts' hs) (slice_set M.coroutines co (in_progress frames')) ds (slice_set k.held co hs')) (set_same T.coroutines co talk.running talks)
      (co_put M.functions T.cells run (λ fr hs. Stacks lax' M.functions T.cells fr ts' hs) M.coroutines T.coroutines k.held co (in_progress frames) (in_progress frames') talk.running talk.running hs hs'
      (λ j fr e n. n (sym (only j fr e))) runs talks e st k.coroutines))

  -- a frame that holds nothing is pushed
  pub pushed : (m : Frame) (t : TalkFrame) → Pair false M.functions T.cells m t [] → under m ≡ lax → suc (length frames) ≤ greatest_depth
      → Joined false (push M (record { coroutine = co; frames = frames }) m) (on_frames T (t ∷ T.frames))
  unfolding push put_frames
  pushed m t pair u room =
      let o = own_stack in
      let s = o.2 in
      let up : frames ≡ upward s.ms = s.listed ∙ reverse_is s.ms in
      let size : length frames ≡ length s.ms = ap (λ l. length l) up ∙ length_upward s.ms in
      frames_put false (frames ++ m ∷ []) (t ∷ T.frames) o.0 ([] ∷ o.0) o.1 (holds_nothing o.0)
      (record {
        ms = m ∷ s.ms;
        listed = ap (λ l. l ++ m ∷ []) up ∙ sym (reverse_is (m ∷ s.ms));
        below = (pair, subst (λ b. Below b M.functions T.cells s.ms T.frames o.0) (sym u) s.below);
        depth = subst (λ n. suc n ≤ greatest_depth) size room;
      })

  -- the frame on top
  pub record OnTop (m : Frame) : Type 0 where
    pub t : TalkFrame
    pub ts : List TalkFrame
    pub rest : List Frame
    pub h : Held
    pub hs : List Held
    pub frames_are : frames ≡ rest ++ m ∷ []
    pub talks_are : T.frames ≡ t ∷ ts
    pub holds : slice_get k.held co ≡ Some (h ∷ hs)
    pub pair : Pair lax M.functions T.cells m t h
    pub below : Stacks (under m) M.functions T.cells rest ts hs
    pub depth : suc (length rest) ≤ greatest_depth

  pub on_top : (m : Frame) → last frames ≡ Some m → OnTop m
  on_top m e = let o = own_stack in let s = o.2 in from s.ms T.frames o.0 (s.listed ∙ reverse_is s.ms) s.below s.depth refl o.1
    where
      from : (ms : List Frame) (ts : List TalkFrame) (hs : List Held) → frames ≡ upward ms → Below lax M.functions T.cells ms ts hs → length ms ≤ greatest_depth → T.frames ≡ ts → slice_get k.held co ≡ Some hs → OnTop m
      from [] ts hs up b d f g = absurd (let z : None ≡ Some m = sym (ap last up) ∙ e in cc)
      from (m' ∷ ms) (t ∷ ts) (h ∷ hs) up b d f g =
          let same : m' ≡ m = some_is (ap last up ∙ last_is (upward ms) m') e in
          record {
            t = t;
            ts = ts;
            rest = upward ms;
            h = h;
            hs = hs;
            frames_are = up ∙ ap (λ m. upward ms ++ m ∷ []) same;
            talks_are = f;
            holds = g;
            pair = subst (λ m. Pair lax M.functions T.cells m t h) same b.0;
            below = record { ms = ms; listed = sym (reverse_is ms); below = subst (λ m. Below (under m) M.functions T.cells ms ts hs) same b.1; depth = less (length ms) greatest_depth d };
            depth = subst (λ n. suc n ≤ greatest_depth) (sym (length_upward ms)) d;
          }
        where
          less : (n d : ℕ) → suc n ≤ d → n ≤ d
          less n d l = omega (arith, l)
      from (m' ∷ ms) [] hs up b d f g = absurd b
      from (m' ∷ ms) (t ∷ ts) [] up b d f g = absurd b

  -- a frame that holds nothing is popped
  pub popped_off : (m : Frame) (x : OnTop m) → x.h ≡ [] → Joined (under m) (pop M (record { coroutine = co; frames = frames })) (on_frames T x.ts)
  unfolding pop put_frames
  popped_off m x empty =
      let rest : without_last frames ≡ x.rest = ap without_last x.frames_are ∙ without_last_is x.rest m in
      frames_put (under m) (without_last frames) x.ts (x.h ∷ x.hs) x.hs x.holds (subst (λ h. HoldsSame (h ∷ x.hs) x.hs) (sym empty) (holds_back x.hs ([] ∷ x.hs) (holds_nothing x.hs)))
      (subst (λ fr. Stacks (under m) M.functions T.cells fr x.ts x.hs) (sym rest) x.below)
