-- The code of a function's body means the body.
use Rattle.std.proofs.Common.{◌≡◌, ℕ, zero, suc, ◌+◌, ◌<◌, ◌≤◌, ◌^◌, Bool, true, false, cond, List, [], ◌∷◌, ◌++◌, length, take, drop, Option, Some, None, refl, sym, ap, subst, ◌∙◌, arith, length-append}
use Rattle.std.proofs.lemmas.List.{length-map}
use Rattle.std.specs.Prelude.{nat_lt, slice_get, option_map, pos, negsuc, ℤ}
use Rattle.std.proofs.lemmas.Option.{slice_get-map}
use Rattle.int_core.specs.Value.{Value, known, nil, nth, bind, fitted}
use Rattle.int_core.proofs.ValueLemmas.{length_fitted}
use Rattle.int_core.specs.Ask.{Captured}
use Rattle.tree_core.specs.Tree.{Block, Falls, Returns, Body, BodyOf, EndStats}
use Rattle.tree_activation.specs.Work.{complete, run, leave_scope, end_of_body, Work, Pending, Passed, falls_off, returns_list}
use Rattle.tree_activation.specs.Work as tree
use Rattle.tree_activation.specs.Activation.{line_of_end}
use Rattle.tree_activation.specs.Statements.{point_of}
use Rattle.code_core.specs.declared.opcode.Opcode.TheVariants.{Return, VarArgPrep}
use Rattle.code_core.specs.Instruction.{abc}
use Rattle.code_core.specs.declared.proto.Const.{Const}
use Rattle.code_core.specs.Prototype.{Prototype}
use Rattle.code_core.proofs.FieldLemmas.{opcode_of-abc, a_of-abc}
use Rattle.machine_core.specs.InstructionRows.{next}
use Rattle.machine_core.specs.Moves.{line_of}
use Rattle.machine_core.specs.Talk.{before}
use Rattle.code_means.specs.Means.{Means}
use Rattle.code_of.specs.Coded.{Coded, lines, leaving_by}
use Rattle.code_of.specs.Constants.{of_block}
use Rattle.code_of.specs.Jumps.{Reach}
use Rattle.tree_terms.specs.Levels.{levels_after}
use Rattle.code_of.specs.declared.leaving.Leaving.{Leaving}
use Rattle.code_of.specs.Expressions.{made_in}
use Rattle.code_of.specs.Levels.{closings_after, made_in_stats, made_in_block}
use Rattle.code_of.specs.Parts.{return_code}
use Rattle.code_of.specs.Sizes.{stats_size}
use Rattle.code_of.specs.Statements.{stats_code, whole_code}
use Rattle.code_of.specs.CodeOf.{back_field, leaving_of, opening, body_code, code_of}
use Rattle.exp_laws.proofs.Registers.{AllUnder, HeldUnder, Rel}
use Rattle.exp_laws.specs.Setting.{Setting, Alike, inside}
use Rattle.exp_laws.proofs.Talking.{Agree, go_left, go_right, of_tree, of_code}
use Rattle.exp_laws.proofs.Placing.{HasAt, has_front, has_back}
use Rattle.exp_laws.proofs.Going.{next_there}
use Rattle.exp_laws.proofs.Steps.{row_step, go_step}
use Rattle.stat_laws.proofs.Ways.{way}
use Rattle.stat_laws.proofs.Standing.{strong}
use Rattle.code_of.proofs.Sizes.{stats_sized}
use Rattle.stat_laws.proofs.Labels.{Jumps}
use Rattle.stat_laws.proofs.Blocks.{begins_block}
use Rattle.stat_laws.proofs.Returns.{return_step, return_ends, return_some}
use Rattle.stat_laws.proofs.Ending.{ends_alike}
use Rattle.exp_laws.proofs.Returning.{returns_alike}
use Rattle.exp_laws.proofs.Calls.{behind_fits}
use Rattle.stat_laws.proofs.Values.{nth_fitted}
use Rattle.stat_laws.proofs.Naming.{BlockIsNamed}
use Rattle.stat_laws.proofs.Scopes.{body_named}
use Rattle.stat_laws.proofs.Statements.{stats_goes}
use Rattle.code_of.proofs.Lines.{lines_back}
use Rattle.stat_laws.proofs.Lines.{has_all}
use Rattle.stat_laws.specs.Fits.{is_known, setting, BlockFits, BodyFits, InBlock}
use Rattle.stat_laws.proofs.Raised.{stats_up, return_up}
use Rattle.stat_laws.proofs.Scoping.{none_counted, stats_scoped, return_scoped}

-- arguments in locals and in registers

nth_registers : (stack n : ℕ) (vs : List Value) (r : ℕ) → r < n → n ≤ stack → nth (fitted stack (take n vs)) r ≡ nth vs r
nth_registers stack zero vs r h le = absurd (omega arith)
nth_registers zero (suc n) vs r h le = absurd (omega arith)
nth_registers (suc stack) (suc n) [] zero h le = refl
nth_registers (suc stack) (suc n) [] (suc r) h le = nth_none stack r
  where
    nth_none : (stack r : ℕ) → nth (fitted stack []) r ≡ known nil
    nth_none zero r = refl
    nth_none (suc stack) zero = refl
    nth_none (suc stack) (suc r) = nth_none stack r
nth_registers (suc stack) (suc n) (v ∷ vs) zero h le = refl
nth_registers (suc stack) (suc n) (v ∷ vs) (suc r) h le = nth_registers stack n vs r (omega arith) (omega arith)

abbrev no_cells : Captured
no_cells = record { held = []; gone = [] }

abbrev start_reach : Reach
start_reach = record { labels = []; exit = None }

whole_some : (cs : List Const) (back : Leaving) (inner : Block) (params pc : ℕ) → 1 ≤ length (whole_code cs back inner params pc)
whole_some cs back (Falls ss tokens line) params pc =
    let sum = length-append (stats_code cs back ss true false 0 params 0 pc [] start_reach) (leaving_by Return (levels_after ss params) 1 back.back line ∷ []) in omega (arith, sum)
whole_some cs back (Returns ss es tokens line) params pc =
    let last = return_code cs (closings_after ss false) es (levels_after ss params) (0 + made_in_stats ss) line back.back in
    let sum = length-append (stats_code cs back ss false false 0 params 0 pc [] start_reach) last in
    let some = return_some cs (closings_after ss false) es (levels_after ss params) (0 + made_in_stats ss) line back.back in
    omega (arith, sum, some)

module _ (S : Setting) (back : ℕ) where
  -- nothing is around a function's block
  no_jumps : (n lo hi : ℕ) (k : List Work) → Jumps S back n lo hi 0 [] [] false start_reach k
  no_jumps n lo hi k = record { gotos = λ name ok. absurd (cc); exits = λ ok. absurd (cc) }

  -- the function's end, without values
  end_goes : (n t line line' pc : ℕ) (labels : List Passed) (e : line ≡ line') → HasAt S pc (leaving_by Return t 1 back line ∷ []) → t < 2 ^ 8
      → (m : ℕ) → m ≤ n → (ps : List Pending) (env regs : List Value) (c : Captured) (opened : ℕ) → t + 0 ≤ length regs → Rel S.hidden S.code.own.stack ps env c regs
      → Agree S m (tree.at (run (record { rest = EndStats; ending = falls_off line; level = 0; labels = labels })) (of_tree S ps env c) (end_of_body line' ∷ [])) (before (of_code S ps pc regs opened) c)
  end_goes n t line line' pc labels e has small m le ps env regs c opened width rel =
      subst (λ l. Agree S m (tree.at (run (record { rest = EndStats; ending = falls_off line; level = 0; labels = labels })) (of_tree S ps env c) (end_of_body l ∷ [])) (before (of_code S ps pc regs opened) c)) e
      (go_left S m _ (tree.at (leave_scope 0 line (known nil) complete) (of_tree S ps env c) (end_of_body line ∷ [])) _ refl
      (ends_alike S m line ps env c _
      (returns_alike S t [] m ps line pc opened env regs [] c _ rel (record { word = abc Return t 1 back (nat_lt 0 t); opcode = Return; there = has.0; is = opcode_of-abc Return t 1 back (nat_lt 0 t); lined = has.1.0 })
      (a_of-abc Return t 1 back (nat_lt 0 t) small) (behind_fits t 0 (length regs) width) (λ i lt. absurd (omega (arith, lt))) (return_step S t back pc opened ps regs c has.0 small width))))

  abbrev Runs : Block → (n params pc : ℕ) → Type 0
  Runs inner n params pc =
      (env regs : List Value) (opened : ℕ) → length env ≡ params → Rel S.hidden S.code.own.stack [] env no_cells regs
      → Agree S n (tree.at (run (point_of inner 0)) (of_tree S [] env no_cells) (end_of_body (line_of_end inner) ∷ [])) (before (of_code S [] pc regs opened) no_cells)

  -- a function's block, at its first instruction
  block_runs : (inner : Block) (n params pc : ℕ) → n ≤ S.bound → HasAt S pc (whole_code S.code.own.constants (way S back) inner params pc) → pc + length (whole_code S.code.own.constants (way S back) inner params pc) ≤ length S.code.own.code
      → BlockFits S params inner → AllUnder S.hidden.integers 0 → BlockIsNamed S.lines S.code (way S back) inner false 0 params 0 pc → Runs inner n params pc
  block_runs (Falls ss tokens line) n params pc fewer has inside fits clear titles env regs opened size rel =
      (stats_goes back S ss (falls_off line) true 0 [] (end_of_body line ∷ []) (λ more. refl) n pc (pc + length body) false [] params 0 pc [] [] [] [] false start_reach
      (begins_block S back (falls_off line) true 0 [] (end_of_body line ∷ []) (λ more. refl) n (pc + length body) ss false params 0 pc [] false start_reach fewer (has_front S pc body last has) fits.0 (omega (arith, sized))
      (omega (arith, inside, sum)) (no_jumps n pc (pc + length body) (end_of_body line ∷ [])) tt clear titles (omega arith) refl (record {
        full = λ labels m le ps env1 regs1 c1 opened1 st. end_goes n (levels_after ss params) line line (pc + size_of) labels refl at_last (omega (arith, fits.1, S.small)) m le ps env1 regs1 c1 opened1 (omega (arith, fits.1, st.rel.room)) st.rel;
        low = λ is labels m le ps env1 regs1 c1 opened1 st. end_goes n (levels_after ss params) line line (pc + size_of) labels refl at_last (omega (arith, fits.1, S.small)) m le ps env1 regs1 c1 opened1 (omega (arith, fits.1, st.rel.room)) st.rel;
      }))).0 n (omega arith) [] env regs no_cells opened (record { numbered = refl; size = size; rel = rel })
    where
      body : List Coded
      body = stats_code S.code.own.constants (way S back) ss true false 0 params 0 pc [] start_reach

      last : List Coded
      last = leaving_by Return (levels_after ss params) 1 back line ∷ []

      size_of : ℕ
      size_of = stats_size S.code.own.constants (way S back) ss false params 0

      sized : length body ≡ size_of
      sized = stats_sized S.code.own.constants (way S back) ss true false 0 params 0 pc [] start_reach

      sum : length (body ++ last) ≡ length body + 1
      sum = length-append body last

      at_last : HasAt S (pc + size_of) last
      at_last = subst (λ q. HasAt S (pc + q) last) sized (has_back S pc body last has)
  block_runs (Returns ss es tokens line) n params pc fewer has inside fits clear titles env regs opened size rel =
      (stats_goes back S ss (returns_list line es) false 0 [] (end_of_body line ∷ []) (λ more. refl) n pc (pc + length body) false [] params 0 pc [] [] [] [] false start_reach
      (begins_block S back (returns_list line es) false 0 [] (end_of_body line ∷ []) (λ more. refl) n (pc + length body) ss false params 0 pc [] false start_reach fewer (has_front S pc body last has) fits.0 (omega (arith, sized))
      (omega (arith, inside, sum, some)) (no_jumps n pc (pc + length body) (end_of_body line ∷ [])) tt clear titles (omega arith) refl (record {
        full = return_ends S back ss es line n false [] 0 params 0 pc start_reach (end_of_body line ∷ []) fewer has fits.1 (omega (arith, inside, sum, sized)) refl;
        low = λ is. absurd (cc);
      }))).0 n (omega arith) [] env regs no_cells opened (record { numbered = refl; size = size; rel = rel })
    where
      body : List Coded
      body = stats_code S.code.own.constants (way S back) ss false false 0 params 0 pc [] start_reach

      last : List Coded
      last = return_code S.code.own.constants (closings_after ss false) es (levels_after ss params) (0 + made_in_stats ss) line back

      sized : length body ≡ stats_size S.code.own.constants (way S back) ss false params 0
      sized = stats_sized S.code.own.constants (way S back) ss false false 0 params 0 pc [] start_reach

      sum : length (body ++ last) ≡ length body + length last
      sum = length-append body last

      some : 1 ≤ length last
      some = return_some S.code.own.constants (closings_after ss false) es (levels_after ss params) (0 + made_in_stats ss) line back

  -- VARARGPREP stands in front in a function with `...`
  opens : (vararg : Bool) (n params line : ℕ) (s : tree.State) (regs : List Value) → HasAt S 0 (opening vararg params line) → length (opening vararg params line) < length S.code.own.code
      → Agree S n s (before (of_code S [] (length (opening vararg params line)) regs 0) no_cells) → Agree S n s (before (of_code S [] 0 regs 0) no_cells)
  opens false n params line s regs has inside h = h
  opens true n params line s regs has inside h =
      let there = next_there S (0 + 1) inside in
      go_right S n s _ (before (of_code S [] (0 + 1) regs 0) no_cells)
      (row_step S.code (abc VarArgPrep params 0 0 false) VarArgPrep next (of_code S [] 0 regs 0) no_cells has.0 (opcode_of-abc VarArgPrep params 0 0 false) refl ∙ go_step S.code 1 there.0 [] (of_code S [] 0 regs 0) no_cells there.1) h

abbrev line_read : Option (Option ℤ) → Option ℕ
line_read o = bind (bind o (λ line. line)) (λ line. elim line as (λ _. Option ℕ) [ pos n ↦ Some n | negsuc _ ↦ None ])

lined : (source : Option (List ℕ)) (body : Body) (i : ℕ) (x : Coded) → slice_get (body_code body) i ≡ Some x → line_of (code_of source body) i ≡ cond (is_known source) (Some x.1) None
lined None (BodyOf params vararg inner ups line) i x e = refl
lined (Some text) (BodyOf params vararg inner ups line) i x e =
    let code = body_code (BodyOf params vararg inner ups line) in
    ap (λ l. line_read (slice_get l i)) (lines_back (lines code) line)
    ∙ ap line_read (slice_get-map (λ l. Some (pos l)) (lines code) i ∙ ap (option_map (λ l. Some (pos l))) (slice_get-map (λ y. y.1) code i ∙ ap (option_map (λ y. y.1)) e))

module _ (source : Option (List ℕ)) where
  -- a body, where the functions in it are alike through fewer asks
  body_alike : (N : ℕ) → ((b : Body) → BodyFits source b → (m : ℕ) → m < N → Alike (is_known source) m b (code_of source b)) → (body : Body) → BodyFits source body → Alike (is_known source) N body (code_of source body)
  body_alike N below (BodyOf params vararg inner ups line) fits arguments =
      opens S (back_field vararg (length params)) vararg N (length params) line _ regs (has_front S 0 begin whole has) (omega (arith, sized, some))
      (block_runs S (back_field vararg (length params)) inner N (length params) (length begin) (omega arith) at_whole (omega (arith, sized)) (raised inner fits.0.placed fits.1) (λ r a. absurd a) (body_named source params vararg inner ups line)
      (fitted (length params) arguments) regs 0 (length_fitted (length params) arguments) rel)
    where
      p : Prototype
      p = code_of source (BodyOf params vararg inner ups line)

      -- where a block makes no function, no local has a cell
      celled_by : Block → Setting
      celled_by block = inside (setting source (code_of source (BodyOf params vararg inner ups line)) N (cond vararg (drop (length params) arguments) []) fits.0.small fits.0.short) (nat_lt 0 (made_in_block block)) 0 true

      S : Setting
      S = inside (setting source (code_of source (BodyOf params vararg inner ups line)) N (cond vararg (drop (length params) arguments) []) fits.0.small fits.0.short) (nat_lt 0 (made_in_block inner)) 0 true

      none_held : (b : Bool) → HeldUnder [] (cond b [] (0 ∷ []))
      none_held true = tt
      none_held false = (tt, tt)

      regs : List Value
      regs = fitted (code_of source (BodyOf params vararg inner ups line)).own.stack (take (length params) arguments)

      begin : List Coded
      begin = opening vararg (length params) line

      whole : List Coded
      whole = whole_code (of_block inner []) (leaving_of vararg (length params) inner) inner (length params) (length (opening vararg (length params) line))

      has : HasAt S 0 (begin ++ whole)
      has = has_all S [] (body_code (BodyOf params vararg inner ups line)) refl (λ i x e. lined source (BodyOf params vararg inner ups line) i x e)

      at_whole : HasAt S (length begin) whole
      at_whole = let same : 0 + length begin ≡ length begin = omega arith in subst (λ q. HasAt S q whole) same (has_back S 0 begin whole has)

      sized : length S.code.own.code ≡ length begin + length whole
      sized = length-map (begin ++ whole) (λ y. y.0) ∙ length-append begin whole

      some : 1 ≤ length whole
      some = whole_some (of_block inner []) (leaving_of vararg (length params) inner) inner (length params) (length begin)

      rel : Rel S.hidden S.code.own.stack [] (fitted (length params) arguments) no_cells regs
      rel =
          let wide = length_fitted (length params) arguments in
          let room = fits.0.room in
          let all = length_fitted (code_of source (BodyOf params vararg inner ups line)).own.stack (take (length params) arguments) in
          record {
            agree = λ r lr. nth_fitted (length params) arguments r (omega (arith, lr, wide)) ∙ sym (nth_registers (code_of source (BodyOf params vararg inner ups line)).own.stack (length params) arguments r (omega (arith, lr, wide)) room);
            held = tt;
            hides = record { free = λ r a. absurd a; whole = λ r a. absurd a; low = none_held (nat_lt 0 (made_in_block inner)); bare = λ e. tt };
            ascends = tt;
            fits = omega (arith, wide, room);
            room = omega (arith, all);
          }

      raised : (inner' : Block) → BlockFits (setting source p 0 [] fits.0.small fits.0.short) (length params) inner' → InBlock source p inner' 0 → BlockFits (celled_by inner') (length params) inner'
      raised (Falls ss tokens end) h g = (
        stats_scoped (nat_lt 0 (made_in_stats ss)) 0 true (setting source p N (cond vararg (drop (length params) arguments) []) fits.0.small fits.0.short) ss true false (length params) 0 [] [] false
            (stats_up source p N (cond vararg (drop (length params) arguments) []) fits.0.small fits.0.short below (record { integers = []; free_from = []; celled = true }) ss true false (length params) 0 [] [] false h.0 g)
            (λ is. none_counted (made_in_stats ss) is),
        h.1,
      )
      raised (Returns ss es tokens end) h g = (
        stats_scoped (nat_lt 0 (made_in_stats ss + made_in es)) 0 true (setting source p N (cond vararg (drop (length params) arguments) []) fits.0.small fits.0.short) ss false false (length params) 0 [] [] false
            (stats_up source p N (cond vararg (drop (length params) arguments) []) fits.0.small fits.0.short below (record { integers = []; free_from = []; celled = true }) ss false false (length params) 0 [] [] false h.0 g.0)
            (λ is. let none = none_counted (made_in_stats ss + made_in es) is in omega (arith, none)),
        return_scoped (nat_lt 0 (made_in_stats ss + made_in es)) 0 true (setting source p N (cond vararg (drop (length params) arguments) []) fits.0.small fits.0.short) es (closings_after ss false) (levels_after ss (length params)) (0 + made_in_stats ss)
            (return_up source p N (cond vararg (drop (length params) arguments) []) fits.0.small fits.0.short below (record { integers = []; free_from = []; celled = true }) es (closings_after ss false) (levels_after ss (length params)) (0 + made_in_stats ss) h.1 g.1)
            (λ is. let none = none_counted (made_in_stats ss + made_in es) is in omega (arith, none)),
      )

  -- the code of a body means it
  pub means : (body : Body) → BodyFits source body → Means (is_known source) (code_of source body) body
  means body fits n arguments =
      strong (λ N. (b : Body) → BodyFits source b → Alike (is_known source) N b (code_of source b)) (λ N fewer. body_alike N (λ b h m lt. fewer m lt b h)) n body fits arguments
