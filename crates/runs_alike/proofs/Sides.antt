-- Trees and codes that mean them, side by side in both orders.
use Rattle.std.proofs.Common.{◌≡◌, ℕ, Bool, true, false, List, [], ◌∷◌, ◌≤◌, refl, sym, ◌∙◌, ap, subst, arith}
use Rattle.int_core.specs.Value.{Value}
use Rattle.int_core.specs.Ask.{Ask, reads_upvalue, writes_upvalue, makes_table, makes_function, fills_table, pays, opens, operates, calls, calls_last, marks, closes, raises, leaves, Reply, values, faulted, left, Answer, Next, goes_on, says, stuck, runs, AskLike, NextLike, IsReplyTo, IsLeft, IsQuiet, FitsAsk}
use Rattle.tree_core.specs.Tree.{Body}
use Rattle.tree_activation.specs.Work.{Celling, when_captured, State as TreeState}
use Rattle.tree_activation.specs.Activation.{start, step}
use Rattle.code_core.specs.Prototype.{Prototype}
use Rattle.machine_core.specs.Talk.{State as CodeState, talk_start, talk_step}
use Rattle.lua_meaning.specs.World.{System, Function, Coroutine, fresh, running, dead, failed, World, as_known, without_name}
use Rattle.lua_meaning.specs.Step.{Primitives}
use Rattle.load_rows.specs.Loading.{Built, built, refused_at, Builds}
use Rattle.lua_meaning.specs.Meaning.{Outcome, has_returned, has_failed, has_spent, is_suspended, is_broken, Meaning, run_from, IsMeaning, IsOnward}
use Rattle.lua_meaning.specs.Opening.{primitives}
use Rattle.lua_meaning.specs.TreeMeaning.{trees}
use Rattle.code_means.specs.Means.{Means}
use Rattle.code_means.specs.Runs.{codes_run, EndAlike, RunAlike}
use Rattle.runs_alike.specs.Alike.{BuiltAlike, BuildsAlike, PrimitivesAlike, FunctionsAlike, CoroutinesAlike, WorldsAlike, IsMeantBy, script, CodeEnds, TreeEnds}
use Rattle.runs_alike.proofs.Dressed.{Mid, Out}
use Rattle.runs_alike.proofs.AllAsks.{Talk, all_same}
use Rattle.runs_alike.proofs.TreeLeft as tree_left
use Rattle.runs_alike.proofs.CodeLeft as code_left
use Rattle.runs_alike.proofs.Pending.{left_alike}
use Rattle.runs_alike.proofs.Ticking.{PendAlike}
use Rattle.runs_alike.proofs.Endings.{WaitAlike, runs_out, onward_out}
use Rattle.runs_alike.proofs.Opened.{begun_dressed, begun_like}

abbrev Flip : {A B : Type 0} → (A → B → Type 0) → B → A → Type 0
Flip R b a = R a b

-- in the other order

ask_flip : {A B : Type 0} → (R : A → B → Type 0) (q : Ask A) (r : Ask B) → AskLike R q r → AskLike (Flip R) r q
ask_flip R (reads_upvalue u) (reads_upvalue v) like = sym like
ask_flip R (writes_upvalue u v) (writes_upvalue w x) like = (sym like.0, sym like.1)
ask_flip R makes_table makes_table like = tt
ask_flip R (makes_function a cells) (makes_function b others) like = (like.0, sym like.1)
ask_flip R (fills_table t last vs) (fills_table u from ws) like = (sym like.0, (sym like.1.0, sym like.1.1))
ask_flip R pays pays like = tt
ask_flip R (opens v) (opens w) like = sym like
ask_flip R (operates op vs) (operates other ws) like = (sym like.0, sym like.1)
ask_flip R (calls c vs) (calls d ws) like = (sym like.0, sym like.1)
ask_flip R (calls_last c vs) (calls_last d ws) like = (sym like.0, sym like.1)
ask_flip R (marks v name) (marks w other) like = (sym like.0, sym like.1)
ask_flip R (closes v e) (closes w g) like = (sym like.0, sym like.1)
ask_flip R (raises text) (raises other) like = sym like
ask_flip R (leaves l) (leaves m) like = sym like
ask_flip R q r like = absurd like

carried : {A B : Type 0} → (q : Ask A) (r : Ask B) (shared also : List (ℕ × Value)) (x : Answer) → (IsReplyTo r x.reply → IsReplyTo q x.reply) → (IsQuiet q → IsQuiet r) → shared ≡ also → FitsAsk r also x → FitsAsk q shared x
carried q r shared also x reply quiet same fits =
    let there : FitsAsk q also x = record { reply = reply fits.reply; count = fits.count; kept = λ z. fits.kept (quiet z) } in
    subst (λ c. FitsAsk q c x) (sym same) there

-- an answer that fits the one fits the other
fits_flip : {A B : Type 0} → (R : A → B → Type 0) (q : Ask A) (r : Ask B) (shared also : List (ℕ × Value)) (x : Answer) → AskLike R q r → shared ≡ also → FitsAsk r also x → FitsAsk q shared x
fits_flip R (reads_upvalue u) (reads_upvalue v) shared also x like = carried _ _ shared also x (λ z. z) (λ z. z)
fits_flip R (writes_upvalue u v) (writes_upvalue w y) shared also x like = carried _ _ shared also x (λ z. z) (λ z. z)
fits_flip R makes_table makes_table shared also x like = carried _ _ shared also x (λ z. z) (λ z. z)
fits_flip R (makes_function f cells) (makes_function g others) shared also x like = carried _ _ shared also x (λ z. z) (λ z. z)
fits_flip R (fills_table t last vs) (fills_table u from ws) shared also x like = carried _ _ shared also x (λ z. z) (λ z. z)
fits_flip R pays pays shared also x like = carried _ _ shared also x (λ z. z) (λ z. z)
fits_flip R (opens v) (opens w) shared also x like = carried _ _ shared also x (λ z. z) (λ z. z)
fits_flip R (operates op vs) (operates other ws) shared also x like = carried _ _ shared also x (λ z. z) (λ z. z)
fits_flip R (calls f vs) (calls g ws) shared also x like = carried _ _ shared also x (λ z. z) (λ z. z)
fits_flip R (calls_last f vs) (calls_last g ws) shared also x like = carried _ _ shared also x (λ z. z) (λ z. z)
fits_flip R (marks v name) (marks w other) shared also x like = carried _ _ shared also x (λ z. z) (λ z. z)
fits_flip R (closes v e) (closes w f) shared also x like = carried _ _ shared also x (λ z. z) (λ z. z)
fits_flip R (raises text) (raises other) shared also x like = carried _ _ shared also x (λ z. z) (λ z. z)
fits_flip R (leaves l) (leaves m) shared also x like = carried _ _ shared also x (λ z. z) (λ z. z)
fits_flip R q r shared also x like = absurd like

next_flip : {A B S T : Type 0} → (R : A → B → Type 0) (Q : S → T → Type 0) (x : Next A S) (y : Next B T) → NextLike R Q x y → NextLike (Flip R) (Flip Q) y x
next_flip R Q (says q line shared k) (says r other also h) like =
    (ask_flip R q r like.0, (sym like.1.0, (sym like.1.1.0, (λ x fits. like.1.1.1 x (fits_flip R q r shared also x like.0 like.1.1.0 fits)))))
next_flip R Q stuck stuck like = tt
next_flip R Q x y like = absurd like

-- what is asked without a line and a name is the same where these are dropped once more

ask_plain : {A B : Type 0} → (R : A → B → Type 0) (q : Ask A) (r : Ask B) → AskLike R (without_name q) r → AskLike R (without_name q) (without_name r)
ask_plain R (reads_upvalue u) (reads_upvalue v) like = like
ask_plain R (writes_upvalue u v) (writes_upvalue w x) like = like
ask_plain R makes_table makes_table like = like
ask_plain R (makes_function a cells) (makes_function b others) like = like
ask_plain R (fills_table t last vs) (fills_table u from ws) like = like
ask_plain R pays pays like = like
ask_plain R (opens v) (opens w) like = like
ask_plain R (operates op vs) (operates other ws) like = like
ask_plain R (calls c vs) (calls d ws) like = like
ask_plain R (calls_last c vs) (calls_last d ws) like = like
ask_plain R (marks v name) (marks w other) like = (like.0, refl)
ask_plain R (closes v e) (closes w g) like = like
ask_plain R (raises text) (raises other) like = like
ask_plain R (leaves l) (leaves m) like = like
ask_plain R q r like = absurd like

next_plain : {A B S T : Type 0} → (R : A → B → Type 0) (Q : S → T → Type 0) (l : Bool) (x : Next A S) (y : Next B T) → NextLike R Q (as_known l x) y → NextLike R Q (as_known l x) (as_known l y)
next_plain R Q true x y like = like
next_plain R Q false (says q line shared k) (says r other also h) like = (ask_plain R q r like.0, (refl, like.1.1))
next_plain R Q false stuck stuck like = tt
next_plain R Q false x y like = absurd like

-- code and body

abbrev TalkAlike : Bool → Body → Prototype → TreeState → CodeState → Type 0
TalkAlike l b p s t = Talk l b p s t

asks_tree : (l : Bool) (b : Body) (p : Prototype) (s : TreeState) (t : CodeState) → Talk l b p s t → Mid (trees when_captured) codes_run IsMeantBy TalkAlike l b p s t
asks_tree l b p s t same =
    let m = all_same l b p s t same in
    (m.0, m.1, next_plain (IsMeantBy l) (Talk l b p) l (runs step m.0 s) (runs (talk_step p) m.1 t) m.2)

begins_tree : (l : Bool) (b : Body) (p : Prototype) (arguments : List Value) → Means l p b → Talk l b p (start when_captured b arguments) (talk_start p arguments)
begins_tree l b p arguments means n = means n arguments

-- and in the other order

abbrev MeansBack : Bool → Prototype → Body → Type 0
MeansBack l p b = Means l p b

abbrev TalkBack : Bool → Prototype → Body → CodeState → TreeState → Type 0
TalkBack l p b t s = Talk l b p s t

asks_code : (l : Bool) (p : Prototype) (b : Body) (t : CodeState) (s : TreeState) → Talk l b p s t → Mid codes_run (trees when_captured) MeansBack TalkBack l p b t s
asks_code l p b t s same =
    let m = asks_tree l b p s t same in
    (m.1, m.0, next_flip (IsMeantBy l) (Talk l b p) (as_known l (runs step m.0 s)) (as_known l (runs (talk_step p) m.1 t)) m.2)

begins_code : (l : Bool) (p : Prototype) (b : Body) (arguments : List Value) → Means l p b → Talk l b p (start when_captured b arguments) (talk_start p arguments)
begins_code l p b arguments means n = means n arguments

-- what is pending where both are left while they wait

named_reply : {F : Type 0} → (q : Ask F) (reply : Reply) → IsReplyTo (without_name q) reply → IsReplyTo q reply
named_reply (reads_upvalue u) reply fits = fits
named_reply _ reply fits = fits

tree_known : (l : Bool) (x : Next Body TreeState) → tree_left.LeavesSo x → tree_left.LeavesSo (as_known l x)
tree_known true x so = so
tree_known false (goes_on s) so = so
tree_known false (says q line shared k) so = λ e vs cell fits. so e vs cell (named_reply q (left e) fits)
tree_known false stuck so = so

code_known : (l : Bool) (y : Next Prototype CodeState) → code_left.LeavesSo y → code_left.LeavesSo (as_known l y)
code_known true y so = so
code_known false (goes_on t) so = so
code_known false (says q line shared k) so = λ e vs cell fits. so e vs cell (named_reply q (left e) fits)
code_known false stuck so = so

pends_same : (l : Bool) (b : Body) (p : Prototype) (x : Next Body TreeState) (y : Next Prototype CodeState) → tree_left.LeavesSo x → code_left.LeavesSo y
    → NextLike (IsMeantBy l) (Talk l b p) x y → PendAlike (trees when_captured) codes_run b p x y
pends_same l b p (says q line shared k) (says r other also h) so so_too like = λ x fits is_left. by x.reply x.shared x.cell fits is_left where
  by : (reply : Reply) (vs : List Value) (cell : ℕ) → FitsAsk q shared (record { reply = reply; shared = vs; cell = cell }) → IsLeft reply
      → codes_run.pending p (h (record { reply = reply; shared = vs; cell = cell })) ≡ (trees when_captured).pending b (k (record { reply = reply; shared = vs; cell = cell }))
  by (values ws) vs cell fits is_left = absurd is_left
  by (faulted text) vs cell fits is_left = absurd is_left
  by (left e) vs cell fits is_left =
      let x : Answer = record { reply = left e; shared = vs; cell = cell } in
      let fits_too = fits_flip (Flip (IsMeantBy l)) r q also shared x (ask_flip (IsMeantBy l) q r like.0) (sym like.1.1.0) fits in
      left_alike l b p (k x) (h x) (so e vs cell fits.reply) (so_too e vs cell fits_too.reply) (like.1.1.1 x fits)
pends_same l b p stuck stuck so so_too like = tt
pends_same l b p x y so so_too like = absurd like

pends_tree : (l : Bool) (b : Body) (p : Prototype) (s : TreeState) (t : CodeState) → NextLike (IsMeantBy l) (Talk l b p) (as_known l (step s)) (as_known l (talk_step p t))
    → PendAlike (trees when_captured) codes_run b p (as_known l (step s)) (as_known l (talk_step p t))
pends_tree l b p s t like =
    pends_same l b p (as_known l (step s)) (as_known l (talk_step p t)) (tree_known l (step s) (tree_left.step_left s)) (code_known l (talk_step p t) (code_left.code_left p t)) like

pends_flip : (l : Bool) (b : Body) (p : Prototype) (x : Next Body TreeState) (y : Next Prototype CodeState) → NextLike (IsMeantBy l) (Talk l b p) x y
    → PendAlike (trees when_captured) codes_run b p x y → PendAlike codes_run (trees when_captured) p b y x
pends_flip l b p (says q line shared k) (says r other also h) like pend = λ x fits is_left. sym (pend x (fits_flip (IsMeantBy l) q r shared also x like.0 like.1.1.0 fits) is_left)
pends_flip l b p stuck stuck like pend = tt
pends_flip l b p x y like pend = absurd like

pends_code : (l : Bool) (p : Prototype) (b : Body) (t : CodeState) (s : TreeState) → NextLike (MeansBack l) (TalkBack l p b) (as_known l (talk_step p t)) (as_known l (step s))
    → PendAlike codes_run (trees when_captured) p b (as_known l (talk_step p t)) (as_known l (step s))
pends_code l p b t s like =
    let there = next_flip (MeansBack l) (TalkBack l p b) (as_known l (talk_step p t)) (as_known l (step s)) like in
    pends_flip l b p (as_known l (step s)) (as_known l (talk_step p t)) there (pends_tree l b p s t there)

-- worlds and endings in the other order

functions_flip : {A B : Type 0} → (R : Bool → A → B → Type 0) (P : Bool → B → A → Type 0) → ((l m : Bool) (a : A) (b : B) → l ≡ m → R l a b → P m b a) → (fs : List (Function A)) (gs : List (Function B)) → FunctionsAlike R fs gs → FunctionsAlike P gs fs
functions_flip R P turn [] [] like = tt
functions_flip R P turn (f ∷ fs) (g ∷ gs) like =
    (record { made_of = turn f.has_lines g.has_lines f.made_of g.made_of like.0.has_lines like.0.made_of; source = sym like.0.source; has_lines = sym like.0.has_lines; cells = sym like.0.cells }, functions_flip R P turn fs gs like.1)
functions_flip R P turn [] (g ∷ gs) like = absurd like
functions_flip R P turn (f ∷ fs) [] like = absurd like

coroutines_flip : {S T : Type 0} → (cs : List (Coroutine S)) (ds : List (Coroutine T)) → CoroutinesAlike cs ds → CoroutinesAlike ds cs
coroutines_flip [] [] like = tt
coroutines_flip (fresh f ∷ cs) (fresh g ∷ ds) like = (sym like.0, coroutines_flip cs ds like.1)
coroutines_flip (running ∷ cs) (running ∷ ds) like = (tt, coroutines_flip cs ds like.1)
coroutines_flip (dead ∷ cs) (dead ∷ ds) like = (tt, coroutines_flip cs ds like.1)
coroutines_flip (failed e vs ∷ cs) (failed d ws ∷ ds) like = ((sym like.0.0, sym like.0.1), coroutines_flip cs ds like.1)
coroutines_flip (c ∷ cs) (d ∷ ds) like = absurd like.0
coroutines_flip [] (d ∷ ds) like = absurd like
coroutines_flip (c ∷ cs) [] like = absurd like

turned : (l m : Bool) (b : Body) (p : Prototype) → l ≡ m → Means l p b → Means m p b
turned l m b p same means = subst (λ k. Means k p b) same means

worlds_flip : (W : World Body TreeState) (V : World Prototype CodeState) → WorldsAlike IsMeantBy W V → WorldsAlike MeansBack V W
worlds_flip W V like = record {
  heap = sym like.heap;
  functions = functions_flip IsMeantBy MeansBack turned W.functions V.functions like.functions;
  cells = sym like.cells;
  coroutines = coroutines_flip W.coroutines V.coroutines like.coroutines;
  globals = sym like.globals;
  chain = sym like.chain;
}

end_flip : {A B S T : Type 0} → (x : Outcome A S) (y : Outcome B T) → EndAlike x y → EndAlike y x
end_flip has_returned has_returned like = tt
end_flip has_failed has_failed like = tt
end_flip has_spent has_spent like = tt
end_flip (is_suspended W) (is_suspended V) like = tt
end_flip is_broken is_broken like = tt
end_flip x y like = absurd like

pub run_flip : {A B S T : Type 0} → (x : Meaning A S) (y : Meaning B T) → RunAlike x y → RunAlike y x
run_flip x y like = record { printed = sym like.printed; outcome = end_flip x.outcome y.outcome like.outcome }

-- a count is within itself
itself : (n : ℕ) → n ≤ n
itself n = omega arith

built_flip : (x : Built Body) (y : Built Prototype) → BuiltAlike IsMeantBy x y → BuiltAlike MeansBack y x
built_flip (built b) (built p) like = like
built_flip (refused_at line rule) (refused_at other broken) like = (sym like.0, sym like.1)
built_flip (built b) (refused_at other broken) like = absurd like
built_flip (refused_at line rule) (built p) like = absurd like

-- a world of trees in which a run is suspended as one is in a world of codes
abbrev pub TreeWaits : World Prototype CodeState → World Body TreeState → Type 0
TreeWaits V W = Out codes_run (trees when_captured) MeansBack TalkBack V W

back_alike : (trees_built : Builds Body) (code_built : Builds Prototype) → BuildsAlike IsMeantBy trees_built code_built → PrimitivesAlike MeansBack (primitives code_built) (primitives trees_built)
back_alike trees_built code_built builds = record { numbered = λ n. refl; builds = λ given source. built_flip (trees_built given source) (code_built given source) (builds given source) }

-- what the code means further on a tree means too whose locals get their cells in this form
pub record TreeGoesOn (celling : Celling) (trees_built : Builds Body) (W : World Body TreeState) (input : List (List ℕ)) (budget : ℕ) (m : Meaning Prototype CodeState) : Type 0 where
  pub meaning : Meaning Body TreeState
  pub goes : IsOnward (trees celling) (primitives trees_built) W input budget meaning
  pub alike : RunAlike meaning m

pub tree_goes_on : (trees_built : Builds Body) (code_built : Builds Prototype) → BuildsAlike IsMeantBy trees_built code_built → (V : World Prototype CodeState) (W : World Body TreeState) → TreeWaits V W
    → (input : List (List ℕ)) (budget : ℕ) (m : Meaning Prototype CodeState) → IsOnward codes_run (primitives code_built) V input budget m → TreeGoesOn when_captured trees_built W input budget m
tree_goes_on trees_built code_built builds V W waits input budget m given =
    let l = onward_out codes_run (trees when_captured) MeansBack TalkBack asks_code begins_code pends_code (primitives code_built) (primitives trees_built) (back_alike trees_built code_built builds) input given.steps budget V W m waits given.gives in
    record { meaning = l.other; goes = record { steps = l.count; gives = l.gives l.count (itself l.count) }; alike = run_flip m l.other l.alike }

module _ (trees_built : Builds Body) (code_built : Builds Prototype) (builds : BuildsAlike IsMeantBy trees_built code_built)
    (W : World Body TreeState) (V : World Prototype CodeState) (worlds : WorldsAlike IsMeantBy W V) (main : Body) (code : Prototype) (name : List ℕ) (lines : Bool) (means : Means lines code main)
    (input : List (List ℕ)) (budget : ℕ) where
  abbrev Sa : System Body TreeState
  Sa = trees when_captured

  abbrev Sb : System Prototype CodeState
  Sb = codes_run

  abbrev tree_side : Primitives Body
  tree_side = primitives trees_built

  abbrev code_side : Primitives Prototype
  code_side = primitives code_built

  both : PrimitivesAlike IsMeantBy tree_side code_side
  both = record { numbered = λ n. refl; builds = builds }

  back_both : PrimitivesAlike MeansBack code_side tree_side
  back_both = back_alike trees_built code_built builds

  pub code_ends : (m : Meaning Body TreeState) → IsMeaning (trees when_captured) (primitives trees_built) W (script main name lines) input budget m → CodeEnds code_built V (script code name lines) input budget m
  code_ends m given =
      let like = begun_like Sa Sb IsMeantBy TalkAlike asks_tree begins_tree tree_side code_side both W V worlds main code name lines means budget in
      let same = begun_dressed Sa Sb IsMeantBy TalkAlike asks_tree begins_tree tree_side code_side both W V worlds main code name lines means budget in
      let l = runs_out Sa Sb IsMeantBy TalkAlike asks_tree begins_tree pends_tree tree_side code_side both input given.steps budget _ _ _ _ m like given.gives in
      record {
        meaning = l.other;
        is_meant = record { steps = l.count; gives = ap (λ U. run_from Sb code_side l.count U input budget) same ∙ l.gives l.count (itself l.count) };
        alike = l.alike;
      }

  -- and where both are suspended their worlds wait alike
  pub record TreeEndsSo (m : Meaning Prototype CodeState) : Type 0 where
    pub ends : TreeEnds when_captured trees_built W (script main name lines) input budget m
    pub waits : WaitAlike TreeWaits m.outcome ends.meaning.outcome

  pub tree_ends : (m : Meaning Prototype CodeState) → IsMeaning codes_run (primitives code_built) V (script code name lines) input budget m → TreeEndsSo m
  tree_ends m given =
      let back = worlds_flip W V worlds in
      let like = begun_like Sb Sa MeansBack TalkBack asks_code begins_code code_side tree_side back_both V W back code main name lines means budget in
      let same = begun_dressed Sb Sa MeansBack TalkBack asks_code begins_code code_side tree_side back_both V W back code main name lines means budget in
      let l = runs_out Sb Sa MeansBack TalkBack asks_code begins_code pends_code code_side tree_side back_both input given.steps budget _ _ _ _ m like given.gives in
      record {
        ends = record {
          meaning = l.other;
          is_meant = record { steps = l.count; gives = ap (λ U. run_from Sa tree_side l.count U input budget) same ∙ l.gives l.count (itself l.count) };
          alike = run_flip m l.other l.alike;
        };
        waits = l.waits;
      }
