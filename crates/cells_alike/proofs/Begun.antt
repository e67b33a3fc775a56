-- A script that begins, in both forms.
use Rattle.std.proofs.Common.{◌≡◌, ⊎_elim, inl, inr, ℕ, zero, suc, ◌+◌, ◌<◌, List, [], ◌∷◌, ◌++◌, length, Option, Some, None, refl, sym, ◌∙◌, ap, subst, arith, length-append}
use Rattle.std.proofs.lemmas.Bool.{cases_eq}
use Rattle.std.proofs.lemmas.Option.{slice_get-map}
use Rattle.std.specs.Prelude.{slice_get, map, option_map, unwrap_or}
use Rattle.int_core.specs.Value.{Value, object, a_table, nth}
use Rattle.tree_core.specs.Tree.{Body}
use Rattle.tree_activation.specs.Work.{when_declared, when_captured, State}
use Rattle.tree_activation.specs.Activation.{start}
use Rattle.load_rows.specs.Loading.{Builds}
use Rattle.lua_meaning.specs.World.{Function, Coroutine, fresh, suspended, running, normal, dead, failed, World}
use Rattle.lua_meaning.specs.Calls.{frames_in}
use Rattle.lua_meaning.specs.Meaning.{Script, Meaning, begun, run_from, IsMeaning}
use Rattle.library_rows.specs.Library.{Entry}
use Rattle.lua_meaning.specs.Opening.{environment_cells, prelude_function, primitives}
use Rattle.lua_meaning.specs.TreeMeaning.{outer_of, tree_opening}
use Rattle.list_laws.specs.Held.{Has}
use Rattle.meaning_cells.specs.Alike.{Pairs, AreEven}
use Rattle.meaning_cells.proofs.Steps.{starts_alike}
use Rattle.cells_alike.specs.Alike.{AreThere, IsReady, Ends}
use Rattle.cells_alike.proofs.Joint.{Made, Thread, is_fresh, is_suspended, is_running, is_normal, is_dead, has_failed, Place, Store, Joint, function_one, function_two, coroutine_one, coroutine_two, one, two, cells_for, IsStore, LayersAt, layers_in, ArePaired, head, Base, talking_in, Stands, busy}
use Rattle.cells_alike.proofs.Moving.{more_map, get_more}
use Rattle.cells_alike.proofs.Answering.{first_form, second_form}
use Rattle.runs_alike.proofs.Endings.{WaitAlike}
use Rattle.cells_alike.proofs.Runs.{AreWaiting, first_runs, second_runs}

-- each cell is a pair with itself

abbrev itself : ℕ → Pairs
itself zero = []
itself (suc n) = (n, n) ∷ itself n

itself_has : (n c : ℕ) → c < n → Has c c (itself n)
itself_has zero c l = absurd (omega (arith, l))
itself_has (suc n) c l = ⊎_elim (λ e. inl (sym e, sym e)) (λ ne. inr (itself_has n c (omega (arith, l, ne)))) (cases_eq c n)

itself_was : (n c d : ℕ) → Has c d (itself n) → (c ≡ d) × (c < n)
itself_was zero c d h = absurd h
itself_was (suc n) c d h = ⊎_elim (λ k. let e = k.0 in (sym k.0 ∙ k.1, omega (arith, e))) (λ k. let w = itself_was n c d k in let l = w.1 in (w.0, omega (arith, l))) h

abbrev no_owners : ℕ → List Place
no_owners zero = []
no_owners (suc n) = (0, 0) ∷ no_owners n

owners_count : (n : ℕ) → length (no_owners n) ≡ n
owners_count zero = refl
owners_count (suc n) = ap suc (owners_count n)

-- functions and coroutines of both

abbrev made_of : Function Body → Made
made_of f = record { made_of = f.made_of; source = f.source; has_lines = f.has_lines; cells = f.cells; cells_too = f.cells }

made_one : (fs : List (Function Body)) → map function_one (map made_of fs) ≡ fs
made_one [] = refl
made_one (f ∷ fs) = ap (λ gs. f ∷ gs) (made_one fs)

made_two : (fs : List (Function Body)) → map function_two (map made_of fs) ≡ fs
made_two [] = refl
made_two (f ∷ fs) = ap (λ gs. f ∷ gs) (made_two fs)

abbrev thread_of : Coroutine State → Thread
thread_of (fresh body) = is_fresh body
thread_of (suspended frames) = is_suspended []
thread_of running = is_running
thread_of (normal frames) = is_normal []
thread_of dead = is_dead
thread_of (failed e pending) = has_failed e pending

no_layers : (c : Coroutine State) → layers_in (thread_of c) ≡ []
no_layers (fresh body) = refl
no_layers _ = refl

thread_one : (c : Coroutine State) → frames_in (Some c) ≡ [] → coroutine_one (thread_of c) ≡ c
thread_one (suspended frames) e = ap suspended (sym e)
thread_one (normal frames) e = ap normal (sym e)
thread_one _ e = refl

thread_two : (c : Coroutine State) → frames_in (Some c) ≡ [] → coroutine_two (thread_of c) ≡ c
thread_two (suspended frames) e = ap suspended (sym e)
thread_two (normal frames) e = ap normal (sym e)
thread_two _ e = refl

threads_one : (cs : List (Coroutine State)) → ((n : ℕ) (c : Coroutine State) → slice_get cs n ≡ Some c → frames_in (Some c) ≡ []) → map coroutine_one (map thread_of cs) ≡ cs
threads_one [] none = refl
threads_one (c ∷ cs) none = ap (λ d. d ∷ map coroutine_one (map thread_of cs)) (thread_one c (none 0 c refl)) ∙ ap (λ ds. c ∷ ds) (threads_one cs (λ n d e. none (suc n) d e))

threads_two : (cs : List (Coroutine State)) → ((n : ℕ) (c : Coroutine State) → slice_get cs n ≡ Some c → frames_in (Some c) ≡ []) → map coroutine_two (map thread_of cs) ≡ cs
threads_two [] none = refl
threads_two (c ∷ cs) none = ap (λ d. d ∷ map coroutine_two (map thread_of cs)) (thread_two c (none 0 c refl)) ∙ ap (λ ds. c ∷ ds) (threads_two cs (λ n d e. none (suc n) d e))

threads_rest : (cs : List (Coroutine State)) (n : ℕ) (c : Thread) → slice_get (map thread_of cs) n ≡ Some c → layers_in c ≡ []
threads_rest [] n c e = absurd (cc)
threads_rest (d ∷ cs) zero c e = subst (λ z. layers_in z ≡ []) (ap (λ o. unwrap_or o c) e) (no_layers d)
threads_rest (d ∷ cs) (suc n) c e = threads_rest cs n c e

there_paired : (cells : List ℕ) (size n : ℕ) → size < n → AreThere cells size → ArePaired (itself n) cells cells
there_paired [] size n l a = tt
there_paired (c ∷ cells) size n l a = let m = a.0 in (itself_has n c (omega (arith, m, l)), there_paired cells size n l a.1)

module _ (builds : Builds Body) (W : World Body State) (ready : IsReady W) (s : Script Body) (budget : ℕ) where
  abbrev cells_there : List Value
  cells_there = W.cells ++ object a_table W.globals ∷ []

  abbrev count_there : ℕ
  count_there = length (W.cells ++ object a_table W.globals ∷ [])

  one_more : count_there ≡ length W.cells + 1
  one_more = length-append W.cells (object a_table W.globals ∷ [])

  abbrev store_there : Store
  store_there = record { pairs = itself count_there; cells = cells_there; cells_too = cells_there; owners = no_owners count_there }

  abbrev main_there : Made
  main_there = record { made_of = s.main; source = s.name; has_lines = s.has_lines; cells = length W.cells ∷ []; cells_too = length W.cells ∷ [] }

  is_store : IsStore store_there
  is_store =
      let more = one_more in record {
        are = record {
          one_way = λ c d e h k. sym (itself_was count_there c d h).0 ∙ (itself_was count_there c e k).0;
          other_way = λ b c d h k. (itself_was count_there b d h).0 ∙ sym (itself_was count_there c d k).0;
          there = λ c d h. (itself_was count_there c d h).1;
          there_too = λ c d h. let p = itself_was count_there c d h in subst (λ z. z < count_there) p.0 p.1;
          own_there = λ c m. absurd m;
        };
        count = owners_count count_there;
        lowest = itself_has count_there 0 (omega (arith, more));
      }

  is_even : AreEven (cells_for store_there [])
  is_even c d h = ap (nth cells_there) (itself_was count_there c d h).0

  base_there : Base store_there (map made_of W.functions ++ main_there ∷ []) (map thread_of W.coroutines) W.chain
  base_there = record {
    store = is_store;
    paired = λ n f e. ⊎_elim
        (λ is. subst (λ z. ArePaired store_there.pairs z.cells z.cells_too) (sym is) (let more = one_more in itself_has count_there (length W.cells) (omega (arith, more)), tt))
        (λ old. by n f (slice_get W.functions n) refl (sym (slice_get-map made_of W.functions n) ∙ old))
        (get_more (map made_of W.functions) main_there n f e);
    others = λ n c e. subst (λ frames. LayersAt store_there n frames) (sym (threads_rest W.coroutines n c e)) tt;
    running_one = λ c e. threads_rest W.coroutines (head W.chain) c e;
  }
    where
      by : (n : ℕ) (f : Made) (o : Option (Function Body)) → slice_get W.functions n ≡ o → option_map made_of o ≡ Some f → ArePaired store_there.pairs f.cells f.cells_too
      by n f None at e = absurd (cc)
      by n f (Some g) at e =
          subst (λ z. ArePaired store_there.pairs z.cells z.cells_too) (ap (λ o. unwrap_or o f) e)
          (let more = one_more in there_paired g.cells (length W.cells) count_there (omega (arith, more)) (ready.functions n g at))

  abbrev waiting_joint : Joint
  waiting_joint = record {
    heap = W.heap;
    functions = map made_of W.functions ++ main_there ∷ [];
    store = store_there;
    coroutines = map thread_of W.coroutines;
    globals = W.globals;
    printed = [];
    fuel = budget;
    chain = W.chain;
    frames = [];
    now = W.now;
  }

  abbrev joint : Joint
  joint = talking_in waiting_joint (length W.functions) (start when_declared s.main []) (start when_captured s.main []) []

  stands : Stands joint
  stands = busy waiting_joint (length W.functions) (start when_declared s.main []) (start when_captured s.main []) [] (record {
    base = base_there;
    own = [];
    owned = λ c m. absurd m;
    like = starts_alike (cells_for store_there []) s.main [] is_store.are is_even;
    layers = tt;
  })

  begun_one : one joint ≡ begun first_form (primitives builds) W s budget
  begun_one =
      ap (λ fs. record (one joint) { functions = fs }) (sym (more_map function_one (map made_of W.functions) main_there) ∙ ap (λ fs. fs ++ function_one main_there ∷ []) (made_one W.functions))
      ∙ ap (λ cs. record (one joint) { functions = W.functions ++ function_one main_there ∷ []; coroutines = cs }) (threads_one W.coroutines ready.coroutines)

  begun_two : two joint ≡ begun second_form (primitives builds) W s budget
  begun_two =
      ap (λ fs. record (two joint) { functions = fs }) (sym (more_map function_two (map made_of W.functions) main_there) ∙ ap (λ fs. fs ++ function_two main_there ∷ []) (made_two W.functions))
      ∙ ap (λ cs. record (two joint) { functions = W.functions ++ function_two main_there ∷ []; coroutines = cs }) (threads_two W.coroutines ready.coroutines)

  pub second_ends : (input : List (List ℕ)) (m : Meaning Body State) → IsMeaning first_form (primitives builds) W s input budget m → Ends when_captured builds W s input budget m
  second_ends input m is =
      let l = first_runs builds budget is.steps input joint stands m (ap (λ V. run_from first_form (primitives builds) is.steps V input budget) begun_one ∙ is.gives) in
      record {
        meaning = l.other;
        is_meant = record { steps = l.count; gives = sym (ap (λ V. run_from second_form (primitives builds) l.count V input budget) begun_two) ∙ l.gives l.count (omega arith) };
        alike = l.alike;
      }

  -- and where both are suspended their worlds wait alike
  pub record FirstEnds (input : List (List ℕ)) (m : Meaning Body State) : Type 0 where
    pub ends : Ends when_declared builds W s input budget m
    pub waits : WaitAlike (AreWaiting two one) m.outcome ends.meaning.outcome

  pub first_ends : (input : List (List ℕ)) (m : Meaning Body State) → IsMeaning second_form (primitives builds) W s input budget m → FirstEnds input m
  first_ends input m is =
      let l = second_runs builds budget is.steps input joint stands m (ap (λ V. run_from second_form (primitives builds) is.steps V input budget) begun_two ∙ is.gives) in
      record {
        ends = record {
          meaning = l.other;
          is_meant = record { steps = l.count; gives = sym (ap (λ V. run_from first_form (primitives builds) l.count V input budget) begun_one) ∙ l.gives l.count (omega arith) };
          alike = l.alike;
        };
        waits = l.waits;
      }

-- worlds of the libraries

all_there : (count : ℕ) → AreThere (environment_cells count) 1
all_there zero = tt
all_there (suc count) = (omega arith, all_there count)

pub opening_ready : (prelude : List (Entry Body)) → IsReady (tree_opening prelude)
opening_ready prelude = record {
  coroutines = λ n c e. rests n c e;
  functions = λ n f e. by n f (slice_get prelude n) (sym (slice_get-map (prelude_function outer_of) prelude n) ∙ e);
}
  where
    rests : (n : ℕ) (c : Coroutine State) → slice_get (running ∷ []) n ≡ Some c → frames_in (Some c) ≡ []
    rests zero c e = subst (λ z. frames_in (Some z) ≡ []) (ap (λ o. unwrap_or o c) e) refl
    rests (suc n) c e = absurd (cc)

    by : (n : ℕ) (f : Function Body) (o : Option (Entry Body)) → option_map (prelude_function outer_of) o ≡ Some f → AreThere f.cells 1
    by n f None e = absurd (cc)
    by n f (Some x) e = subst (λ z. AreThere z.cells 1) (ap (λ o. unwrap_or o f) e) (all_there (outer_of x.entry))
