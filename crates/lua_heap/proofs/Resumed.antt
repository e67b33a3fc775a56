-- Who runs and who waits: by what is kept, and in the words of the machine.
use Rattle.std.proofs.Common.{◌≡◌, ◌⊎◌, ⊎_elim, inl, inr, ℕ, zero, suc, ◌≤◌, List, [], ◌∷◌, ◌++◌, length, map, take, Option, Some, None, refl, ap, sym, subst, ◌∙◌, arith}
use Rattle.std.specs.Prelude.{◌≢◌, ◌-◌, slice_get, slice_set}
use Rattle.std.specs.Option.{option_map}
use Rattle.std.proofs.lemmas.List.{length-map, map-set, map_push}
use Rattle.int_core.specs.Value.{bind, last, without_last}
use Rattle.list_laws.proofs.Items.{get_set_other, some_same}
use Rattle.machine_core.specs.World.{Frame, Coroutine, in_progress, suspended, Stack, stack_of, running_frames, World}
use Rattle.machine_core.specs.Moves.{awake, back_to_resumer, go_into, put_coroutine, suspend_running}
use Rattle.machine_sound.proofs.Lists.{bind_some, get_map, get_within, map_get, some_is}
use Rattle.lua_stack.specs.Frames.{KeptStack, frames, cell_at}
use Rattle.lua_stack.specs.declared.frame.OpenCell.{OpenCell}
use Rattle.table_core.specs.declared.value.CoroId.{CoroId}
use Rattle.lua_heap.specs.declared.world.Cell.{Cell as KeptCell}
use Rattle.lua_heap.specs.declared.world.Coro.{Coro}
use Rattle.lua_heap.specs.declared.coroutines.Pause.{Pause}
use Rattle.lua_heap.specs.declared.coroutines.Pause.TheVariants.{ForAnother, ToBeResumed}
use Rattle.lua_heap.specs.declared.world.Coro.TheVariants.{Running}
use Rattle.lua_heap.specs.declared.world.World.{World as Memory}
use Rattle.lua_heap.specs.Reading.{value}
use Rattle.lua_heap.specs.Pausing.{paused, waiting}
use Rattle.lua_heap.specs.Plain.{coroutine, plain}
use Rattle.lua_heap.specs.Cells.{IsOnce, AreListed, list_or_empty, open_cells_in}
use Rattle.lua_stack.proofs.Told.{last_map}

-- lists

set_past : {A : Type 0} (xs : List A) (n : ℕ) (x : A) → length xs ≤ n → slice_set xs n x ≡ xs
set_past [] n x h = refl
set_past (y ∷ ys) zero x h = absurd (omega (arith, h))
set_past (y ∷ ys) (suc n) x h = ap (λ l. y ∷ l) (set_past ys n x (omega (arith, h)))

pub set_own : {A : Type 0} (xs : List A) (n : ℕ) (x : A) → slice_get xs n ≡ Some x → slice_set xs n x ≡ xs
set_own [] n x e = absurd (cc)
set_own (y ∷ ys) zero x e = ap (λ z. z ∷ ys) (sym (some_same y x e))
set_own (y ∷ ys) (suc n) x e = ap (λ l. y ∷ l) (set_own ys n x e)

pub set_cases : {A : Type 0} (xs : List A) (n k : ℕ) (x y : A) → slice_get (slice_set xs n x) k ≡ Some y → ((n ≡ k) × (x ≡ y)) ⊎ (slice_get xs k ≡ Some y)
set_cases [] n k x y e = absurd (cc)
set_cases (z ∷ zs) zero zero x y e = inl (refl, some_same x y e)
set_cases (z ∷ zs) zero (suc k) x y e = inr e
set_cases (z ∷ zs) (suc n) zero x y e = inr e
set_cases (z ∷ zs) (suc n) (suc k) x y e = ⊎_elim (λ p. inl (ap suc p.0, p.1)) (λ q. inr q) (set_cases zs n k x y e)

pub without_mapped : {A B : Type 0} (f : A → B) (xs : List A) → map f (without_last xs) ≡ without_last (map f xs)
without_mapped f xs = taken f (length xs - 1) xs ∙ ap (λ n. take (n - 1) (map f xs)) (sym (mapped_length f xs))
  where
    taken : {A B : Type 0} (f : A → B) (n : ℕ) (xs : List A) → map f (take n xs) ≡ take n (map f xs)
    taken f zero xs = refl
    taken f (suc n) [] = refl
    taken f (suc n) (x ∷ xs) = ap (λ l. f x ∷ l) (taken f n xs)

    mapped_length : {A B : Type 0} (f : A → B) (xs : List A) → length (map f xs) ≡ length xs
    mapped_length f [] = refl
    mapped_length f (x ∷ xs) = ap suc (mapped_length f xs)

-- a coroutine that runs gets a list of its own where it had none
pub woken_listed : (cells : List KeptCell) (lists : List (Option (List OpenCell))) (n : ℕ) (o : Option (List OpenCell)) → AreListed cells lists → slice_get lists n ≡ Some o
    → AreListed cells (slice_set lists n (Some (list_or_empty o)))
woken_listed cells lists n (Some own) a e = subst (AreListed cells) (sym (set_own lists n (Some own) e)) a
woken_listed cells lists n None a e = record {
  listed = λ id co frame register own there is.
      let h = a.held id co frame register is in
      let before : slice_get lists co.0 ≡ Some (Some own) =
      ⊎_elim (λ new. absurd (let k : Some None ≡ Some (Some h.0) = sym e ∙ ap (slice_get lists) new.0 ∙ h.1 in cc)) (λ old. old) (set_cases lists n co.0 (Some []) (Some own) there) in
      a.listed id co frame register own before is;
  opened = λ id co frame register own there is.
      ⊎_elim (λ new. absurd (let k : None ≡ Some id = ap (cell_at frame register) (some_same _ _ new.1) ∙ is in cc)) (λ old. a.opened id co frame register own old is)
      (set_cases lists n co.0 (Some []) (Some own) there);
  held = λ id co frame register is.
      let h = a.held id co frame register is in
      let other : n ≢ co.0 = λ same. let k : Some None ≡ Some (Some h.0) = sym e ∙ ap (slice_get lists) same ∙ h.1 in cc in
      (h.0, get_set_other lists n co.0 (Some []) other ∙ h.1);
  once = λ k own there. ⊎_elim (λ h. subst IsOnce (some_same _ _ h.1) tt) (λ h. a.once k own h) (set_cases lists n k (Some []) (Some own) there);
}

pub coroutine_woken : (cells : List KeptCell) (coros : List Coro) (n : ℕ) (c d : Coro) → slice_get coros n ≡ Some c → open_cells_in d ≡ Some (list_or_empty (open_cells_in c)) → AreListed cells (map open_cells_in coros)
    → AreListed cells (map open_cells_in (slice_set coros n d))
coroutine_woken cells coros n c d e f a =
    subst (AreListed cells) (sym (map-set open_cells_in coros n d ∙ ap (slice_set (map open_cells_in coros) n) f))
    (woken_listed cells (map open_cells_in coros) n (open_cells_in c) a (get_map open_cells_in coros n c e))

-- the running coroutine

pub record IsRunning (W : Memory) (fuel : ℕ) (s : Stack) : Type 0 where
  pub number : CoroId
  pub stack : KeptStack
  pub last : last W.chain.items ≡ Some number
  pub there : slice_get W.coros.objects number.0 ≡ Some (Running stack)
  pub is : record { coroutine = number.0; frames = frames (value W.strings) stack } ≡ s

mapped_some : {A B : Type 0} (f : A → B) (o : Option A) (b : B) → option_map f o ≡ Some b → (a : A) × (o ≡ Some a) × (f a ≡ b)
mapped_some f None b e = absurd (cc)
mapped_some f (Some a) b e = (a, refl, some_same _ _ e)

running_case : (texts : List (List ℕ)) (c : Coro) (fs : List Frame) → running_frames (coroutine texts c) ≡ Some fs → (k : KeptStack) × (c ≡ Running k) × (frames (value texts) k ≡ fs)
running_case texts (Running k) fs e = (k, refl, some_same _ _ e)
running_case texts _ fs e = absurd (cc)

abbrev stack_with : ℕ → List Frame → Stack
stack_with n fs = record { coroutine = n; frames = fs }

pub is_running : (W : Memory) (fuel : ℕ) (s : Stack) → stack_of (plain W fuel) ≡ Some s → IsRunning W fuel s
is_running W fuel s e =
    let coroutines : List Coroutine = map (coroutine W.strings) W.coros.objects in
    let a = bind_some (λ n. bind (bind (slice_get coroutines n) running_frames) (λ fs. Some (stack_with n fs))) (last (map (λ (co : CoroId). co.0) W.chain.items)) s e in
    let co = mapped_some (λ (co : CoroId). co.0) (last W.chain.items) a.0 (sym (last_map (λ (co : CoroId). co.0) W.chain.items) ∙ a.1) in
    let b = bind_some (λ fs. Some (stack_with a.0 fs)) (bind (slice_get coroutines a.0) running_frames) s a.2 in
    let d = bind_some running_frames (slice_get coroutines a.0) b.0 b.1 in
    let m = map_get (coroutine W.strings) W.coros.objects a.0 d.0 d.1 in
    let k = running_case W.strings m.0 b.0 (ap running_frames m.2 ∙ d.2) in
    record {
      number = co.0;
      stack = k.0;
      last = co.1;
      there = ap (slice_get W.coros.objects) co.2 ∙ m.1 ∙ ap (λ (c : Coro). Some c) k.1;
      is = ap (λ n. stack_with n (frames (value W.strings) k.0)) co.2 ∙ ap (stack_with a.0) k.2 ∙ some_same _ _ b.2;
    }

paused_means : (texts : List (List ℕ)) (pause : Pause) (stack : KeptStack) → coroutine texts (paused pause stack) ≡ waiting pause (frames (value texts) stack)
paused_means texts ForAnother stack = refl
paused_means texts ToBeResumed stack = refl

-- worlds after a change

pub put_is : (W new : Memory) (fuel n : ℕ) (c : Coro) → new ≡ record W { coros = new.coros } → new.coros.objects ≡ slice_set W.coros.objects n c
    → plain new fuel ≡ put_coroutine (plain W fuel) n (coroutine W.strings c)
unfolding put_coroutine
put_is W new fuel n c rest is =
    ap (λ (V : Memory). plain V fuel) rest ∙ ap (λ cs. record (plain W fuel) { coroutines = map (coroutine W.strings) cs }) is
    ∙ ap (λ ks. record (plain W fuel) { coroutines = ks }) (map-set (coroutine W.strings) W.coros.objects n c)

module _ (W : Memory) (fuel : ℕ) (s : Stack) (e : stack_of (plain W fuel) ≡ Some s) where
  r : IsRunning W fuel s
  r = is_running W fuel s e

  pub somebody_runs : last W.chain.items ≡ None → ⊥
  somebody_runs n = let k : None ≡ Some r.number = sym n ∙ r.last in absurd (cc)

  module _ (co : CoroId) (top : last W.chain.items ≡ Some co) where
    same_number : co ≡ r.number
    same_number = some_is top r.last

    pub runner_there : length W.coros.objects ≤ co.0 → ⊥
    runner_there l = let here = get_within W.coros.objects r.number.0 (Running r.stack) r.there in let same = ap (λ (k : CoroId). k.0) same_number in omega (arith, l, here, same)

    module _ (c d : Coro) (there : slice_get W.coros.objects co.0 ≡ Some c) where
      runs : c ≡ Running r.stack
      runs = some_is there (ap (λ (k : CoroId). slice_get W.coros.objects k.0) same_number ∙ r.there)

      set_there : (k : KeptStack → Coro) → ((stack : KeptStack) → c ≡ Running stack → d ≡ k stack) → slice_set W.coros.objects co.0 d ≡ slice_set W.coros.objects r.number.0 (k r.stack)
      set_there k f = ap (λ (n : CoroId). slice_set W.coros.objects n.0 d) same_number ∙ ap (slice_set W.coros.objects r.number.0) (f r.stack runs)

      abbrev changed : Memory
      changed = record W { coros = record W.coros { objects = slice_set W.coros.objects co.0 d } }

      pub pauses_is : (pause : Pause) → ((stack : KeptStack) → c ≡ Running stack → d ≡ paused pause stack) → plain changed fuel ≡ put_coroutine (plain W fuel) s.coroutine (waiting pause s.frames)
      pauses_is pause f =
          put_is W changed fuel r.number.0 (paused pause r.stack) refl (set_there (paused pause) f) ∙ ap (put_coroutine (plain W fuel) r.number.0) (paused_means W.strings pause r.stack)
          ∙ ap (λ (s : Stack). put_coroutine (plain W fuel) s.coroutine (waiting pause s.frames)) r.is

pub back_after : (W middle new : Memory) (fuel : ℕ) (s : Stack) → plain middle fuel ≡ put_coroutine (plain W fuel) s.coroutine (suspended s.frames) → plain new fuel ≡ back_to_resumer (plain middle fuel)
    → plain new fuel ≡ suspend_running (plain W fuel) s
unfolding suspend_running
back_after W middle new fuel s e f = f ∙ ap back_to_resumer e

-- the chain without its last one, and the one that is last then
pub chain_is : (W : Memory) (new : List CoroId) → new ≡ without_last W.chain.items → map (λ (co : CoroId). co.0) new ≡ without_last (map (λ (co : CoroId). co.0) W.chain.items)
chain_is W new e = ap (map (λ (co : CoroId). co.0)) e ∙ without_mapped (λ (co : CoroId). co.0) W.chain.items

abbrev resumer_goes_on : World → List ℕ → Option ℕ → World
resumer_goes_on W chain o = elim o [ None ↦ record W { chain = chain } | Some co ↦ put_coroutine (record W { chain = chain }) co (in_progress (awake (slice_get W.coroutines co))) ]

back_by : (W : World) (chain : List ℕ) → without_last W.chain ≡ chain → back_to_resumer W ≡ resumer_goes_on W chain (last chain)
unfolding back_to_resumer
back_by W chain e = ap (λ c. resumer_goes_on W c (last c)) e

module _ (W new : Memory) (fuel : ℕ) (rest : new ≡ record W { coros = new.coros; chain = new.chain }) (chain : new.chain.items ≡ without_last W.chain.items) where
  abbrev ids : List ℕ
  ids = map (λ (co : CoroId). co.0) new.chain.items

  back : back_to_resumer (plain W fuel) ≡ resumer_goes_on (plain W fuel) ids (last ids)
  back = back_by (plain W fuel) ids (sym (chain_is W new.chain.items chain))

  now : plain new fuel ≡ record (plain W fuel) { coroutines = map (coroutine W.strings) new.coros.objects; chain = ids }
  now = ap (λ (V : Memory). plain V fuel) rest

  last_ids : (o : Option CoroId) → last new.chain.items ≡ o → last ids ≡ option_map (λ (co : CoroId). co.0) o
  last_ids o e = last_map (λ (co : CoroId). co.0) new.chain.items ∙ ap (option_map (λ (co : CoroId). co.0)) e

  pub nobody_goes_on : last new.chain.items ≡ None → new.coros.objects ≡ W.coros.objects → plain new fuel ≡ back_to_resumer (plain W fuel)
  nobody_goes_on e is =
      now ∙ ap (λ cs. record (plain W fuel) { coroutines = map (coroutine W.strings) cs; chain = ids }) is
      ∙ sym (back ∙ ap (resumer_goes_on (plain W fuel) ids) (last_ids None e))

  pub goes_on : (co : CoroId) (c d : Coro) → last new.chain.items ≡ Some co → slice_get W.coros.objects co.0 ≡ Some c → coroutine W.strings d ≡ in_progress (awake (Some (coroutine W.strings c)))
      → new.coros.objects ≡ slice_set W.coros.objects co.0 d → plain new fuel ≡ back_to_resumer (plain W fuel)
  unfolding put_coroutine
  goes_on co c d e there woken is =
      let ks : List Coroutine = map (coroutine W.strings) W.coros.objects in
      let V : World = plain W fuel in
      now ∙ ap (λ cs. record V { coroutines = map (coroutine W.strings) cs; chain = ids }) is
      ∙ ap (λ ks. record V { coroutines = ks; chain = ids }) (map-set (coroutine W.strings) W.coros.objects co.0 d)
      ∙ ap (λ (k : Coroutine). record V { coroutines = slice_set ks co.0 k; chain = ids }) (woken ∙ ap (λ (o : Option Coroutine). in_progress (awake o)) (sym (get_map (coroutine W.strings) W.coros.objects co.0 c there)))
      ∙ sym (back ∙ ap (resumer_goes_on V ids) (last_ids (Some co) e))

  pub goes_on_past : (co : CoroId) → last new.chain.items ≡ Some co → length W.coros.objects ≤ co.0 → new.coros.objects ≡ W.coros.objects → plain new fuel ≡ back_to_resumer (plain W fuel)
  unfolding put_coroutine
  goes_on_past co e l is =
      let ks : List Coroutine = map (coroutine W.strings) W.coros.objects in
      let V : World = plain W fuel in
      let n : length ks ≡ length W.coros.objects = length-map W.coros.objects (coroutine W.strings) in
      now ∙ ap (λ cs. record V { coroutines = map (coroutine W.strings) cs; chain = ids }) is
      ∙ ap (λ ks. record V { coroutines = ks; chain = ids }) (sym (set_past ks co.0 (in_progress (awake (slice_get ks co.0))) (omega (arith, l, n))))
      ∙ sym (back ∙ ap (resumer_goes_on V ids) (last_ids (Some co) e))

-- another coroutine runs
pub goes_into : (W new : Memory) (fuel : ℕ) (co : CoroId) (c d : Coro) → new ≡ record W { coros = new.coros; chain = new.chain } → new.chain.items ≡ W.chain.items ++ co ∷ [] → slice_get W.coros.objects co.0 ≡ Some c
    → coroutine W.strings d ≡ in_progress (awake (Some (coroutine W.strings c))) → new.coros.objects ≡ slice_set W.coros.objects co.0 d
    → plain new fuel ≡ go_into (plain W fuel) co.0 (awake (slice_get (plain W fuel).coroutines co.0))
unfolding go_into put_coroutine
goes_into W new fuel co c d rest chain there woken is =
    let ks : List Coroutine = map (coroutine W.strings) W.coros.objects in
    let V : World = plain W fuel in
    ap (λ (V : Memory). plain V fuel) rest ∙ ap (λ cs. record V { coroutines = map (coroutine W.strings) cs; chain = map (λ (co : CoroId). co.0) new.chain.items }) is
    ∙ ap (λ ks. record V { coroutines = ks; chain = map (λ (co : CoroId). co.0) new.chain.items }) (map-set (coroutine W.strings) W.coros.objects co.0 d)
    ∙ ap (λ (k : Coroutine). record V { coroutines = slice_set ks co.0 k; chain = map (λ (co : CoroId). co.0) new.chain.items })
    (woken ∙ ap (λ (o : Option Coroutine). in_progress (awake o)) (sym (get_map (coroutine W.strings) W.coros.objects co.0 c there)))
    ∙ ap (λ chain. record V { coroutines = slice_set ks co.0 (in_progress (awake (slice_get ks co.0))); chain = chain })
    (ap (map (λ (co : CoroId). co.0)) chain ∙ map_push (λ (co : CoroId). co.0) W.chain.items co)
