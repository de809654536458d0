-- What holds of each row of a table holds of the knowledge that the table is.
use Rattle.std.proofs.Common.{◌≡◌, ℕ, ◌==◌, true, Option, List, Some, None, find, refl, subst}
use Rattle.std.specs.List.{All}
use Rattle.std.specs.Option.{option_map}
use Rattle.std.proofs.lemmas.Bool.{and_parts, eqb-true}
use Rattle.c25_meaning_instructions.specs.declared.insn.Insn.{Insn}
use Rattle.c25_meaning_processor.specs.Step.{is_unrepeatable}
use Rattle.c25_meaning_processor.specs.Statements.{Statements}
use Rattle.c25_meaning_pages.specs.declared.known.Known.{Known}
use Rattle.c25_meaning_pages.specs.Known.{LeadsTo, known_on_reset}
use Rattle.c25_meaning_pages.specs.Inductive.{IsInductive, IsClosed, IsSurelyOn}
use Rattle.c25_pages.specs.Clauses.{ActsAt, RepeatsAt, InterruptsAt, ClosedAt, IsOnAt}
use Rattle.c25_pages.specs.Table.{is_at, known_in, knowledge_of}
use Rattle.c25_pages.specs.declared.table.Row.{Row}
use Rattle.c25_pages.specs.declared.table.Table.{Table}
use Rattle.c25_pages.proofs.Found.{found_holds, found_passes}

known_by : (P : Row → Type 0) (rows : List Row) (context address : ℕ) (known : Known) (found : Option Row) → All P rows → find (is_at context address) rows ≡ found → option_map (λ (row : Row). row.known) found ≡ Some known
    → P (record { context = context; address = address; known = known })
known_by P rows context address known None all is e = absurd (cc)
known_by P rows context address known (Some row) all is e =
    let here : P row = found_holds P (is_at context address) rows row all is in
    let passes = and_parts (row.context == context) (row.address == address) (found_passes (is_at context address) rows row is) in
    let at : row.context ≡ context = eqb-true row.context context passes.0 in
    let there : row.address ≡ address = eqb-true row.address address passes.1 in
    let same : row.known ≡ known = cc in
    subst (λ (k : Known). P (record { context = context; address = address; known = k })) same
    (subst (λ (n : ℕ). P (record { context = context; address = n; known = row.known })) there
    (subst (λ (n : ℕ). P (record { context = n; address = row.address; known = row.known })) at here))

pub known_row : (P : Row → Type 0) (rows : List Row) (context address : ℕ) (known : Known) → All P rows → known_in rows context address ≡ Some known
    → P (record { context = context; address = address; known = known })
unfolding known_in
known_row P rows context address known all e = known_by P rows context address known (find (is_at context address) rows) all refl e

pub inductive_rows : (ss : Statements) (t : Table) → LeadsTo (knowledge_of t) known_on_reset 0 0
    → All (ActsAt ss (knowledge_of t)) t.rows.items → All (RepeatsAt ss (knowledge_of t)) t.rows.items → All (InterruptsAt (knowledge_of t)) t.rows.items
    → IsInductive ss (knowledge_of t)
inductive_rows ss t first acts repeats interrupts =
    record {
      first = first;
      acts = λ context address known i at up stand. known_row (ActsAt ss (knowledge_of t)) t.rows.items context address known acts at up i stand;
      repeats = λ context address known i at up stand. known_row (RepeatsAt ss (knowledge_of t)) t.rows.items context address known repeats at up i stand;
      interrupts = λ context address known at free still. known_row (InterruptsAt (knowledge_of t)) t.rows.items context address known interrupts at free still;
    }

pub closed_rows : (ss : Statements) (t : Table) → All (ClosedAt ss) t.rows.items → IsClosed ss (knowledge_of t)
closed_rows ss t all =
    record {
      stands = λ context address known at up.
          let row = known_row (ClosedAt ss) t.rows.items context address known all at up in
          (row.insn, row.stands, row.alone, row.clear);
      once = λ context address known i at up stand unrepeatable.
          let row = known_row (ClosedAt ss) t.rows.items context address known all at up in
          let same : i ≡ row.insn = cc (stand, row.stands) in
          row.once (subst (λ (j : Insn). is_unrepeatable j ≡ true) same unrepeatable);
    }

pub sure_rows : (t : Table) (address page : ℕ) → All (IsOnAt address page) t.rows.items → IsSurelyOn (knowledge_of t) address page
sure_rows t address page all = λ context known at. known_row (IsOnAt address page) t.rows.items context address known all at refl
