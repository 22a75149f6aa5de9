-- Every row of document 01's worked cases holds: memory's answers are computed, and they are the plain set's by the laws of histories. Assumes nothing.
use mathlib.Core.Path.{◌≡◌, refl, sym, ap, ap₂, subst, ◌∙◌}
use mathlib.Core.List.{List, [], ◌∷◌, ◌++◌, Memᴰ}
use mathlib.Core.Bool.{Bool, true, false, ◌&&◌}
use Prim.Native.Nat.{ℕ, ◌^◌}
use native.Mathlib.Omega.{arith}
use lib.IntN.{ℤ}
use lib.Dec.{ltb}
use lib.Signed.{mag}
use mir.Val.{SFits}
use mir.Syntax.{w64}
use borrow.Author.Tests.{ltb-true}
use Rattle.sums.specs.Sums.{sum_to}
use Rattle.sums.specs.Ids.{count}
use Rattle.sums.specs.Rules.{all_to}
use Rattle.sums.specs.Members.{members_in, plus, fill}
use Rattle.sums.specs.Cases.{PlainCase, PlainSays, plain_table}
use Rattle.sums.proofs.Rules.{both}
use Rattle.sums.proofs.Cases.{cases as plain-cases}
use Rattle.dense.specs.Bits.{bit, is_set, bits_to, with_bit, with_row}
use Rattle.sparse.specs.Search.{lower_in, lower_of, search_in, found_in, spot_in, any_in}
use Rattle.sparse.specs.Edit.{inserted_at, copied}
use Rattle.sparse.specs.Listed.{offsets_at, offsets_from}
use Rattle.sparse.specs.Union.{merged_head, merged, union, on_front}
use Rattle.layout.specs.Places.{row_owner, page_owner}
use Rattle.layout.specs.Entries.{chunk_at, word_at, prefix_at, beside, word_of}
use Rattle.layout.specs.Meaning.{kinds, state_of}
use Rattle.layout.specs.Follows.{members_at}
use Rattle.layout.specs.Tests.{in_range, roomy, zero_at, zeros, key_is, word_is, over_is, place_is, owners_are, prefix_after, prefix_rises, ranks_rise, froms_are, entries_are, head_is, table_is, walked}
use Rattle.layout.specs.SetUp.{zeroed, fresh_table, fresh as emptied, set_up_by}
use Rattle.layout.specs.Short.{lower_key, word_in, spot_of}
use Rattle.layout.proofs.Tests.{range_of, room_of}
use Rattle.layout.specs.Writes.{put_part, added, put_word, put_owner}
use Rattle.steps.specs.Steps.{rowed, paged}
use Rattle.layout.specs.Free.{first_free}
use Rattle.calls.specs.Insert.{insert_plan, insert_by, prepared_plan, prepared_by}
use Rattle.calls.specs.Prepare.{densed_to, over_needed, pages_needed, prepare_by}
use Rattle.calls.specs.Range.{entry_from, any_entry, any_run, any_from, any_by}
use Rattle.calls.specs.Counts.{good_at, size_by, used_at, parts_ok, len_by, has_any_by, chunks_by}
use Rattle.calls.specs.Iteration.{fill_entry, fill_run, fill_from, iter_by}
use Rattle.unions.specs.Union.{standing, source, new_entry, new_row, freed_row, new_page, judged, dense_to, sparse_to, united_by, union_plan, union_by}
use Rattle.document.specs.State.{State, empty}
use Rattle.ranks.specs.Form.{prefixed, blocked, blocked_to, to_ranked, rank_up_by}
use Rattle.layout.specs.Seat.{seat_in}
use Rattle.ranks.specs.Rank.{rank_by, rank_if_by}
use Rattle.document.specs.Calls.{Call, insert, put, prepared, prepare, rank_up, leave, Fitting, Said}
use Rattle.document.specs.Answers.{answer, after, reply}
use Rattle.document.specs.Union.{Join, union_answer, united, leftover}
use Rattle.layout.specs.Mem.{Mem}
use Rattle.layout.specs.Follows.{Follows}
use Rattle.contracts.specs.Runs.{ran_by}
use Rattle.contracts.proofs.Steps.{does}
use Rattle.contracts.proofs.SetUps.{sets_up}
use Rattle.contracts.proofs.Joins.{joins}
use Rattle.promises.proofs.Unique.{asked, asked_once, asked_some}
use Rattle.promises.specs.Cases.{tiny, blank_mem, stated_by, answers, reached, heard, start, Past, fresh, ◌then◌, took, gave, stated, memory, Case, calls, unites, asks, kind, row, page, whole, plain, Says, AllSay, memory_rows, plain_rows, table}

-- ---- the ids of a row are i64

abbrev id_fits : ℤ → Bool
id_fits z = ltb (mag z) (2 ^ 63)

abbrev fits : Call → Bool
fits (insert z) = id_fits z
fits (put z) = id_fits z
fits (prepared z) = id_fits z
fits (prepare z) = id_fits z
fits rank_up = true
fits leave = true

abbrev all_fit : List Call → Bool
all_fit [] = true
all_fit (c ∷ cs) = fits c && all_fit cs

abbrev past_fits : Past → Bool
past_fits fresh = true
past_fits (p then cs) = past_fits p && all_fit cs
past_fits (took p q j) = past_fits p && past_fits q
past_fits (gave p q j) = past_fits p && past_fits q

id_fits_law : (z : ℤ) → id_fits z ≡ true → SFits w64 z
id_fits_law z e = record { sfits = ltb-true (mag z) (2 ^ 63) e }

fitting : (c : Call) → fits c ≡ true → Fitting c
fitting (insert z) e = id_fits_law z e
fitting (put z) e = id_fits_law z e
fitting (prepared z) e = id_fits_law z e
fitting (prepare z) e = id_fits_law z e
fitting rank_up e = tt
fitting leave e = tt

-- ---- document 01's answers are memory's

pub record Along (x : Mem) (q : State) (cs : List Call) : Type 0 where
  pub follows : Follows (reached x cs)
  pub state : state_of (reached x cs) ≡ stated_by q cs
  pub same : answers q cs ≡ heard x cs

along : (x : Mem) (q : State) (cs : List Call) → Follows x → state_of x ≡ q → all_fit cs ≡ true → Along x q cs
along x q [] w s u = record { follows = w; state = s; same = refl }
along x q (c ∷ cs) w s u =
    let b = both (fits c) (all_fit cs) u in
    let d = (does x c (fitting c b.0) {a = (ran_by x c).answer} {y = (ran_by x c).after} refl).says w in
    let k = along (ran_by x c).after (after q c) cs d.follows (d.state ∙ ap (λ (p : State). after p c) s) b.1 in
    record {
      follows = k.follows;
      state = k.state;
      same = ap₂ (λ (a : Said) (rs : List Said). a ∷ rs) (sym (d.said ∙ ap (λ (p : State). answer p c) s)) k.same;
    }

start_made : Follows start × (state_of start ≡ empty tiny)
unfolding in_range roomy
start_made = let m = (sets_up tiny blank_mem {a = (set_up_by tiny blank_mem).answer} {y = start} refl).made ((range_of tiny).sound refl) ((room_of tiny blank_mem).sound refl) in (m.1, m.2)

-- what a past leaves
pub record Stands (p : Past) : Type 0 where
  pub follows : Follows (memory p)
  pub state : state_of (memory p) ≡ stated p

pub record United (p q : Past) (j : Join) : Type 0 where
  pub here : Stands (took p q j)
  pub there : Stands (gave p q j)
  pub same : union_answer (stated p) (stated q) j ≡ (union_by (memory p) (memory q) j).answer

unite : (p q : Past) (j : Join) → Stands p → Stands q → United p q j
unite p q j s t =
    let d = (joins (memory p) (memory q) j {a = (union_by (memory p) (memory q) j).answer} {u = memory (took p q j)} {z = memory (gave p q j)} refl).says s.follows t.follows in
    let e = d.said ∙ ap₂ (λ (a b : State). union_answer a b j) s.state t.state in
    record {
      here = record {
        follows = d.follows;
        state = d.state ∙ ap₂ (λ (a b : State). united a b (union_by (memory p) (memory q) j).answer) s.state t.state ∙ ap (united (stated p) (stated q)) e;
      };
      there = record {
        follows = d.source_follows;
        state = d.source_state ∙ ap (λ (b : State). leftover b j (union_by (memory p) (memory q) j).answer) t.state ∙ ap (leftover (stated q) j) e;
      };
      same = sym e;
    }

stands : (p : Past) → past_fits p ≡ true → Stands p
stands fresh u = record { follows = start_made.0; state = start_made.1 }
stands (p then cs) u =
    let b = both (past_fits p) (all_fit cs) u in
    let s = stands p b.0 in
    let k = along (memory p) (stated p) cs s.follows s.state b.1 in
    record { follows = k.follows; state = k.state }
stands (took p q j) u = let b = both (past_fits p) (past_fits q) u in (unite p q j (stands p b.0) (stands q b.1)).here
stands (gave p q j) u = let b = both (past_fits p) (past_fits q) u in (unite p q j (stands p b.0) (stands q b.1)).there

-- ---- rows with what memory says

abbrev computed : Case → Case
computed (calls p cs rs) = calls p cs (heard (memory p) cs)
computed (unites p q j a) = unites p q j (union_by (memory p) (memory q) j).answer
computed (asks p a r) = asks p a (asked (memory p) a)
computed (kind p c k) = kind p c (kinds (memory p) c)
computed (row p r o) = row p r (row_owner tiny (memory p).table r)
computed (page p n o) = page p n (page_owner tiny (memory p).table n)
computed (whole p x) = whole p (memory p)
computed (plain c) = plain c

abbrev proper : Case → Bool
proper (calls p cs rs) = past_fits p && all_fit cs
proper (unites p q j a) = past_fits p && past_fits q
proper (asks p a r) = past_fits p
proper (kind p c k) = past_fits p
proper (row p r o) = true
proper (page p n o) = true
proper (whole p x) = past_fits p
proper (plain c) = false

computed_says : (c : Case) → proper c ≡ true → Says (computed c)
computed_says (calls p cs rs) u =
    let b = both (past_fits p) (all_fit cs) u in
    let s = stands p b.0 in
    ((along (memory p) (stated p) cs s.follows s.state b.1).same, refl)
computed_says (unites p q j a) u =
    let b = both (past_fits p) (past_fits q) u in
    ((unite p q j (stands p b.0) (stands q b.1)).same, refl)
computed_says (asks p a r) u =
    let s = stands p u in
    let m = asked_some (memory p) a in
    (sym (m.says s.follows ∙ ap (λ (q : State). reply q a) s.state), λ b d. asked_once (memory p) a d.by m.by)
computed_says (kind p c k) u = (sym (ap (λ (q : State). q.map c) (stands p u).state), refl)
computed_says (row p r o) u = refl
computed_says (page p n o) u = refl
computed_says (whole p x) u = (sym (stands p u).state, refl)
computed_says (plain c) u = absurd (let z : ◌≡◌ {A = ℕ} 0 1 = cc in omega arith)

abbrev all_computed : List Case → List Case
all_computed [] = []
all_computed (c ∷ cs) = computed c ∷ all_computed cs

abbrev all_proper : List Case → Bool
all_proper [] = true
all_proper (c ∷ cs) = proper c && all_proper cs

all_say : (cs : List Case) → all_proper cs ≡ true → AllSay (all_computed cs)
all_say [] u = tt
all_say (c ∷ cs) u = let b = both (proper c) (all_proper cs) u in (computed_says c b.0, all_say cs b.1)

table_computed : all_computed memory_rows ≡ memory_rows
unfolding sum_to count all_to bit is_set bits_to with_bit with_row lower_in lower_of search_in found_in spot_in any_in inserted_at in_range roomy zero_at zeros key_is word_is over_is place_is owners_are prefix_after prefix_rises ranks_rise froms_are entries_are head_is table_is walked kinds word_of beside chunk_at word_at prefix_at members_at lower_key word_in spot_of zeroed fresh_table emptied set_up_by put_part added put_word put_owner rowed paged first_free insert_plan insert_by prepared_plan prepared_by densed_to over_needed pages_needed prepare_by good_at size_by used_at parts_ok len_by has_any_by prefixed blocked blocked_to to_ranked rank_up_by seat_in rank_by rank_if_by entry_from any_entry any_run any_from any_by chunks_by members_in plus fill offsets_at offsets_from fill_entry fill_run fill_from iter_by copied merged_head merged union on_front standing source new_entry new_row freed_row new_page judged dense_to sparse_to united_by union_plan union_by
table_computed = refl

table_proper : all_proper memory_rows ≡ true
table_proper = refl

memory_says : AllSay memory_rows
memory_says = subst AllSay table_computed (all_say memory_rows table_proper)

-- the rows about plain sets, and both together
plain_says : (cs : List PlainCase) → ((c : PlainCase) → Memᴰ c cs → PlainSays c) → AllSay (plain_rows cs)
plain_says [] h = tt
plain_says (c ∷ cs) h = (h c (Memᴰ.head refl), plain_says cs (λ d m. h d (Memᴰ.tail m)))

both_say : (xs ys : List Case) → AllSay xs → AllSay ys → AllSay (xs ++ ys)
both_say [] ys a b = b
both_say (x ∷ xs) ys a b = (a.0, both_say xs ys a.1 b)

pub table_says : AllSay table
table_says = both_say memory_rows (plain_rows plain_table) memory_says (plain_says plain_table plain-cases)
