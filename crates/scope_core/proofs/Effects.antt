-- What a walk over a part leaves of the functions around, against the names in the part.
use Rattle.std.proofs.Common.{rules, arith, ℕ, zero, suc, ◌+◌, ◌-◌, ◌≡◌, Bool, true, false, ◌||◌, List, [], ◌∷◌, ◌++◌, refl, sym, ap, ap₂, ◌∙◌, subst, length, map, take, drop, append_assoc, if◌then◌else◌}
use Rattle.std.specs.List.{list_any}
use Rattle.std.specs.Str.{bytes_eq}
use Rattle.std.proofs.Math.Seq.{drop-append_seam, drop-nil}
use Rattle.std.proofs.lemmas.Grind.{flat_map-append}
use Rattle.std.proofs.lemmas.List.{length-append}
use Rattle.tree_core.specs.declared.name.Name.{Name}
use Rattle.tree_core.specs.declared.name.Declared.{Declared}
use Rattle.tree_core.specs.declared.name.UpName.{UpName}
use Rattle.tree_core.specs.Tree.{Stats, EndStats, MoreStats}
use Rattle.scope_core.specs.declared.variable.Variable.{Variable}
use Rattle.scope_core.specs.Scopes.{Scope, Frame, bare, declare, declare_all, declared_by, behind_stats, plain_variable, declared_variable, is_local, needed, environment}
use Rattle.scope_core.specs.Parts.{Naming, Located, at, with_variables, declarations, name_declarations}
use Rattle.scope_core.specs.Places.{up_name, outside_name, outside_all}
use Rattle.scope_core.specs.Reaching.{reached}
use Rattle.scope_core.specs.Walked.{own_variables, own_upvalues, kept, ended, entered, left, named}
use Rattle.scope_core.proofs.Growing.{Extends, Grown, extends_same, extends_through, grown_through, grown_of}
use Rattle.scope_core.proofs.Levels.{add, add_all, Closed, reached_extends, closed_reached, leveled, level_named}

-- Functions seen by their variables alone.

pub bare_length : (fs : List Frame) → length (bare fs) ≡ length fs
bare_length [] = refl
bare_length (f ∷ fs) = ap suc (bare_length fs)

bare_locals : (text : List ℕ) (k : ℕ) (fs : List Frame) → list_any (is_local text) (take k (bare fs)) ≡ list_any (is_local text) (take k fs)
bare_locals text zero fs = refl
bare_locals text (suc k) [] = refl
bare_locals text (suc k) (f ∷ fs) = ap (λ b. is_local text f || b) (bare_locals text k fs)

pub bare_all_locals : (text : List ℕ) (fs : List Frame) → list_any (is_local text) (bare fs) ≡ list_any (is_local text) fs
bare_all_locals text [] = refl
bare_all_locals text (f ∷ fs) = ap (λ b. is_local text f || b) (bare_all_locals text fs)

pub bare_needed : (text : List ℕ) (fs : List Frame) → needed text (bare fs) ≡ needed text fs
bare_needed text fs = ap (λ b. if (bytes_eq text environment || b) then text else environment) (bare_all_locals text fs)

pub bare_declare_all : (fs : List Frame) (vs : List Variable) → declare_all (bare fs) vs ≡ bare (declare_all fs vs)
bare_declare_all fs [] = refl
bare_declare_all [] (v ∷ vs) = bare_declare_all [] vs
bare_declare_all (f ∷ fs) (v ∷ vs) = bare_declare_all (declare (f ∷ fs) v) vs

pub bare_extends : (fs gs : List Frame) → Extends fs gs → bare gs ≡ bare fs
bare_extends [] [] p = refl
bare_extends [] (g ∷ gs) p = absurd p
bare_extends (f ∷ fs) [] p = absurd p
bare_extends (f ∷ fs) (g ∷ gs) p = ap₂ (λ (vs : List Variable) (hs : List Frame). frame_of vs ∷ hs) (sym p.0) (bare_extends fs gs p.2)
  where
    frame_of : List Variable → Frame
    frame_of vs = record { variables = vs; upvalues = [] }

-- Lists of names.

add_all_append : (up : List ℕ → UpName) (us : List UpName) (ts rs : List (List ℕ)) → add_all up us (ts ++ rs) ≡ add_all up (add_all up us ts) rs
add_all_append up us [] rs = refl
add_all_append up us (t ∷ ts) rs = add_all_append up (add up us t) ts rs

pub outside_append : (c : ℕ) (ps qs : List Located) → outside_all c (ps ++ qs) ≡ outside_all c ps ++ outside_all c qs
outside_append c ps qs = flat_map-append (λ (located : Located). outside_name c located.around located.part) ps qs

-- What a part leaves.

pub record Effect (fs gs : List Frame) (seen : List Frame) (parts : List Located) : Type 0 where
  pub closed : Closed gs
  pub grown : Grown fs gs
  pub same : bare gs ≡ seen
  pub level : (n c : ℕ) → suc n + c ≡ length fs → (hs : List Frame) → Extends (drop (suc n) gs) hs → own_upvalues (drop n gs) ≡ add_all (up_name hs) (own_upvalues (drop n fs)) (outside_all c parts)

pub grown_same : (fs : List Frame) → Grown fs fs
grown_same fs = grown_of fs fs (extends_same fs)

pub extends_length : (fs gs : List Frame) → Extends fs gs → length gs ≡ length fs
extends_length [] [] p = refl
extends_length [] (g ∷ gs) p = absurd p
extends_length (f ∷ fs) [] p = absurd p
extends_length (f ∷ fs) (g ∷ gs) p = ap suc (extends_length fs gs p.2)

pub grown_length : (fs gs : List Frame) → Grown fs gs → length gs ≡ length fs
grown_length [] [] p = refl
grown_length [] (g ∷ gs) p = absurd p
grown_length (f ∷ fs) [] p = absurd p
grown_length (f ∷ fs) (g ∷ gs) p = ap suc (extends_length fs gs p.2)

extends_drop : (n : ℕ) (fs gs : List Frame) → Extends fs gs → Extends (drop n fs) (drop n gs)
extends_drop zero fs gs p = p
extends_drop (suc n) [] [] p = tt
extends_drop (suc n) [] (g ∷ gs) p = absurd p
extends_drop (suc n) (f ∷ fs) [] p = absurd p
extends_drop (suc n) (f ∷ fs) (g ∷ gs) p = extends_drop n fs gs p.2

pub grown_drop : (n : ℕ) (fs gs : List Frame) → Grown fs gs → Extends (drop (suc n) fs) (drop (suc n) gs)
grown_drop n [] [] p = tt
grown_drop n [] (g ∷ gs) p = absurd p
grown_drop n (f ∷ fs) [] p = absurd p
grown_drop n (f ∷ fs) (g ∷ gs) p = extends_drop n fs gs p.2

pub nothing : (fs : List Frame) → Closed fs → Effect fs fs (bare fs) []
nothing fs c = record { closed = c; grown = grown_same fs; same = refl; level = λ n c' e hs x. refl }

pub then_also : (fs gs hs b d : List Frame) (ps qs : List Located) → Effect fs gs b ps → Effect gs hs d qs → Effect fs hs d (ps ++ qs)
then_also fs gs hs b d ps qs p q =
    record {
      closed = q.closed;
      grown = grown_through fs gs hs p.grown q.grown;
      same = q.same;
      level = λ n c e ks x.
          q.level n c (e ∙ sym (grown_length fs gs p.grown)) ks x
          ∙ ap (λ us. add_all (up_name ks) us (outside_all c qs)) (p.level n c e ks (extends_through (drop (suc n) gs) (drop (suc n) hs) ks (grown_drop n gs hs q.grown) x))
          ∙ sym (add_all_append (up_name ks) (own_upvalues (drop n fs)) (outside_all c ps) (outside_all c qs))
          ∙ ap (add_all (up_name ks) (own_upvalues (drop n fs))) (sym (outside_append c ps qs));
    }

pub seen_as : (fs gs b d : List Frame) (ps : List Located) → b ≡ d → Effect fs gs b ps → Effect fs gs d ps
seen_as fs gs b d ps e p = record { closed = p.closed; grown = p.grown; same = p.same ∙ e; level = p.level }

-- other parts with the same names
pub same_names : (fs gs b : List Frame) (ps qs : List Located) → ((c : ℕ) → outside_all c ps ≡ outside_all c qs) → Effect fs gs b ps → Effect fs gs b qs
same_names fs gs b ps qs e p =
    record { closed = p.closed; grown = p.grown; same = p.same; level = λ n c f hs x. p.level n c f hs x ∙ ap (add_all (up_name hs) (own_upvalues (drop n fs))) (e c) }

-- A name.

named_by : (up : List ℕ → UpName) (us : List UpName) (local : Bool) (text : List ℕ) → leveled up us local text ≡ add_all up us ((if local then [] else text ∷ []) ++ [])
named_by up us true text = refl
named_by up us false text = refl

pub naming : (fs : List Frame) (s : Scope) (name : Name) → s.frames ≡ bare fs → Closed fs → Effect fs (named name.text fs) (bare fs) (at s (Naming name) ∷ [])
naming fs s name e c =
    record {
      closed = closed_reached fs (needed name.text fs) c;
      grown = grown_of fs (reached fs (needed name.text fs)) (reached_extends fs (needed name.text fs));
      same = bare_extends fs (reached fs (needed name.text fs)) (reached_extends fs (needed name.text fs));
      level = λ n o h hs x.
          let text : List ℕ = needed name.text fs in
          let size : length (bare fs) - o ≡ suc n = omega (arith, h, bare_length fs) in
          let inner : list_any (is_local text) (take (length (bare fs) - o) (bare fs)) ≡ list_any (is_local text) (take (suc n) fs) =
          ap (λ k. list_any (is_local text) (take k (bare fs))) size ∙ bare_locals text (suc n) fs in
          level_named n fs text hs c (omega (arith, h)) x
          ∙ named_by (up_name hs) (own_upvalues (drop n fs)) (list_any (is_local text) (take (suc n) fs)) text
          ∙ ap (λ b. add_all (up_name hs) (own_upvalues (drop n fs)) ((if b then [] else text ∷ []) ++ [])) (sym inner)
          ∙ ap (λ t. add_all (up_name hs) (own_upvalues (drop n fs)) ((if list_any (is_local t) (take (length (bare fs) - o) (bare fs)) then [] else t ∷ []) ++ [])) (sym (bare_needed name.text fs))
          ∙ ap (λ gs. add_all (up_name hs) (own_upvalues (drop n fs)) ((if list_any (is_local (needed name.text gs)) (take (length gs - o) gs) then [] else needed name.text gs ∷ []) ++ [])) (sym e);
    }

-- Variables that are declared, and ended.

pub closed_declare : (fs : List Frame) (vs : List Variable) → Closed fs → Closed (declare_all fs vs)
closed_declare fs [] c = c
closed_declare [] (v ∷ vs) c = closed_declare [] vs c
closed_declare (f ∷ fs) (v ∷ vs) c = closed_declare (declare (f ∷ fs) v) vs c

pub grown_declare : (fs : List Frame) (vs : List Variable) → Grown fs (declare_all fs vs)
grown_declare fs [] = grown_same fs
grown_declare [] (v ∷ vs) = grown_declare [] vs
grown_declare (f ∷ fs) (v ∷ vs) = grown_declare (declare (f ∷ fs) v) vs

pub level_declare : (n : ℕ) (fs : List Frame) (vs : List Variable) → own_upvalues (drop n (declare_all fs vs)) ≡ own_upvalues (drop n fs)
level_declare n fs [] = refl
level_declare n [] (v ∷ vs) = level_declare n [] vs
level_declare zero (f ∷ fs) (v ∷ vs) = level_declare zero (declare (f ∷ fs) v) vs
level_declare (suc n) (f ∷ fs) (v ∷ vs) = level_declare (suc n) (declare (f ∷ fs) v) vs

pub declaring : (fs : List Frame) (vs : List Variable) → Closed fs → Effect fs (declare_all fs vs) (declare_all (bare fs) vs) []
declaring fs vs c =
    record { closed = closed_declare fs vs c; grown = grown_declare fs vs; same = sym (bare_declare_all fs vs); level = λ n o h hs x. level_declare n fs vs }

pub names_outside : (c : ℕ) (s : Scope) (names : List Name) → outside_all c (name_declarations s names) ≡ []
names_outside c s [] = refl
names_outside c s (name ∷ names) = names_outside c (with_variables s (plain_variable name ∷ [])) names

pub locals_outside : (c : ℕ) (s : Scope) (names : List Declared) → outside_all c (declarations s names) ≡ []
locals_outside c s [] = refl
locals_outside c s (name ∷ names) = locals_outside c (with_variables s (declared_variable name ∷ [])) names

pub declaring_names : (fs : List Frame) (s : Scope) (names : List Name) → Closed fs → Effect fs (declare_all fs (map plain_variable names)) (declare_all (bare fs) (map plain_variable names)) (name_declarations s names)
declaring_names fs s names c =
    same_names fs _ _ [] (name_declarations s names) (λ o. sym (names_outside o s names)) (declaring fs (map plain_variable names) c)

pub declaring_locals : (fs : List Frame) (s : Scope) (names : List Declared) → Closed fs → Effect fs (declare_all fs (map declared_variable names)) (declare_all (bare fs) (map declared_variable names)) (declarations s names)
declaring_locals fs s names c =
    same_names fs _ _ [] (declarations s names) (λ o. sym (locals_outside o s names)) (declaring fs (map declared_variable names) c)

-- more variables in the innermost function
pub record Opened (before after : List Frame) : Type 0 where
  pub more : List Variable
  pub own : own_variables after ≡ more ++ own_variables before
  pub rest : left after ≡ left before

opened_same : (fs : List Frame) → Opened fs fs
opened_same fs = record { more = []; own = refl; rest = refl }

pub opened_through : (fs gs hs : List Frame) → Opened fs gs → Opened gs hs → Opened fs hs
opened_through fs gs hs p q =
    record { more = q.more ++ p.more; own = q.own ∙ ap (λ vs. q.more ++ vs) p.own ∙ sym (append_assoc q.more p.more (own_variables fs)); rest = q.rest ∙ p.rest }

pub opened_declare : (fs : List Frame) (vs : List Variable) → Opened fs (declare_all fs vs)
opened_declare fs [] = opened_same fs
opened_declare [] (v ∷ vs) = opened_declare [] vs
opened_declare (f ∷ fs) (v ∷ vs) =
    opened_through (f ∷ fs) (declare (f ∷ fs) v) (declare_all (declare (f ∷ fs) v) vs) (record { more = v ∷ []; own = refl; rest = refl }) (opened_declare (declare (f ∷ fs) v) vs)

pub opened_stats : (fs : List Frame) (ss : Stats) → Opened fs (behind_stats fs ss)
opened_stats fs EndStats = opened_same fs
opened_stats fs (MoreStats stat ss) =
    opened_through fs (declare_all fs (declared_by stat)) (behind_stats (declare_all fs (declared_by stat)) ss) (opened_declare fs (declared_by stat)) (opened_stats (declare_all fs (declared_by stat)) ss)

keep_bare : (fs gs b : List Frame) → Grown fs gs → bare gs ≡ b → Opened (bare fs) b → bare (ended fs gs) ≡ bare fs
keep_bare [] [] b p e o = refl
keep_bare [] (g ∷ gs) b p e o = absurd p
keep_bare (f ∷ fs) [] b p e o = absurd p
keep_bare (f ∷ fs) (g ∷ gs) b p e o =
    let own : g.variables ≡ o.more ++ f.variables = ap own_variables e ∙ o.own in
    let rest : bare gs ≡ bare fs = ap left e ∙ o.rest in
    let size : length (o.more ++ f.variables) - length f.variables ≡ length o.more = omega (arith, length-append o.more f.variables) in
    ap₂ (λ (vs : List Variable) (hs : List Frame). frame_of (drop (length vs - length f.variables) vs) ∷ hs) own rest
    ∙ ap (λ n. frame_of (drop n (o.more ++ f.variables)) ∷ bare fs) size
    ∙ ap (λ vs. frame_of vs ∷ bare fs) (drop-append_seam o.more f.variables)
  where
    frame_of : List Variable → Frame
    frame_of vs = record { variables = vs; upvalues = [] }

closed_kept : (n : ℕ) (fs : List Frame) → Closed fs → Closed (kept n fs)
closed_kept n [] c = c
closed_kept n (f ∷ fs) c = c

grown_kept : (n : ℕ) (fs gs : List Frame) → Grown fs gs → Grown fs (kept n gs)
grown_kept n [] [] p = tt
grown_kept n [] (g ∷ gs) p = absurd p
grown_kept n (f ∷ fs) [] p = absurd p
grown_kept n (f ∷ fs) (g ∷ gs) p = p

level_kept : (k n : ℕ) (gs : List Frame) → own_upvalues (drop n (kept k gs)) ≡ own_upvalues (drop n gs)
level_kept k n [] = refl
level_kept k zero (g ∷ gs) = refl
level_kept k (suc n) (g ∷ gs) = refl

drop_kept : (k n : ℕ) (gs : List Frame) → drop (suc n) (kept k gs) ≡ drop (suc n) gs
drop_kept k n [] = refl
drop_kept k n (g ∷ gs) = refl

pub ending : (fs gs b : List Frame) (ps : List Located) → Opened (bare fs) b → Effect fs gs b ps → Effect fs (ended fs gs) (bare fs) ps
ending fs gs b ps o p =
    record {
      closed = closed_kept (length (own_variables fs)) gs p.closed;
      grown = grown_kept (length (own_variables fs)) fs gs p.grown;
      same = keep_bare fs gs b p.grown p.same o;
      level = λ n c h hs x.
          level_kept (length (own_variables fs)) n gs
          ∙ p.level n c h hs (subst (λ ks. Extends ks hs) (drop_kept (length (own_variables fs)) n gs) x);
    }

-- A function that is entered and left.

left_declare : (f : Frame) (fs : List Frame) (vs : List Variable) → left (declare_all (f ∷ fs) vs) ≡ fs
left_declare f fs [] = refl
left_declare f fs (v ∷ vs) = left_declare (record f { variables = v ∷ f.variables }) fs vs

pub drop_left : (n : ℕ) (gs : List Frame) → drop n (left gs) ≡ drop (suc n) gs
drop_left n [] = drop-nil n
drop_left n (g ∷ gs) = refl

closed_left : (gs : List Frame) → Closed gs → Closed (left gs)
closed_left [] c = tt
closed_left (g ∷ gs) c = c.1

grown_left : (fs gs : List Frame) → Grown fs gs → Extends (left fs) (left gs)
grown_left [] [] p = tt
grown_left [] (g ∷ gs) p = absurd p
grown_left (f ∷ fs) [] p = absurd p
grown_left (f ∷ fs) (g ∷ gs) p = p.2

pub closed_entered : (fs : List Frame) → Closed fs → Closed (entered fs)
closed_entered fs c = ((λ text h. absurd (search rules)), c)

pub leaving : (fs gs b : List Frame) (vs : List Variable) (ps : List Located) → Effect (declare_all (entered fs) vs) gs b ps → Effect fs (left gs) (bare fs) ps
leaving fs gs b vs ps p =
    let within : List Frame = declare_all (entered fs) vs in
    let back : left within ≡ fs = left_declare (record { variables = []; upvalues = [] }) fs vs in
    let outer : Extends fs (left gs) = subst (λ ks. Extends ks (left gs)) back (grown_left within gs p.grown) in
    record {
      closed = closed_left gs p.closed;
      grown = grown_of fs (left gs) outer;
      same = bare_extends fs (left gs) outer;
      level = λ n c h hs x.
          let size : length within ≡ suc (length fs) = grown_length (entered fs) within (grown_declare (entered fs) vs) in
          ap own_upvalues (drop_left n gs)
          ∙ p.level (suc n) c (omega (arith, h, size)) hs (subst (λ ks. Extends ks hs) (drop_left (suc n) gs) x)
          ∙ ap (λ us. add_all (up_name hs) us (outside_all c ps)) (level_declare (suc n) (entered fs) vs);
    }
