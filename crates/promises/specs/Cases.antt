-- Document 01's worked cases: a to e and i to l at its tiny sizes, and crate sums' e to i about plain sets, rows of one table.
use Rattle.std.specs.Prelude.{◌≡◌, ℕ, ◌-◌, ◌^◌, List, [], ◌∷◌, ◌++◌, true, false, ℤ, pos, negsuc, length, replicate, Some, None, Ok, Err}
use Rattle.sums.specs.Cases.{PlainCase, PlainSays, plain_table}
use Rattle.sums.specs.Members.{fill}
use Rattle.layout.specs.Mem.{Mem, mem}
use Rattle.layout.specs.Places.{encoded, row_owner, page_owner}
use Rattle.layout.specs.declared.place.Place.TheVariants.{Sparse, Dense}
use Rattle.document.specs.State.{Kind, sparse, dense, State, empty}
use Rattle.layout.specs.Meaning.{kinds, state_of}
use Rattle.layout.specs.SetUp.{sizes_of, set_up_by}
use Rattle.document.specs.declared.sizes.Sizes.{Sizes}
use Rattle.document.specs.Answers.{answer, after, reply}
use Rattle.document.specs.Calls.{Call, insert, prepared, prepare, rank_up, Said, whether, that, many, maybe, listed}
use Rattle.document.specs.Calls.{Ask, range_test, len, has_any, chunk_count, iterate, rank_of, rank_if_set}
use Rattle.document.specs.Iteration as iteration
use Rattle.document.specs.Union.{Join, merge_from, merge, union_answer, united, leftover}
use Rattle.unions.specs.Union.{union_by}
use Rattle.contracts.specs.Runs.{ran_by}
use Rattle.contracts.specs.Does.{Answers}
use Rattle.document.specs.declared.refusal.Refusal.{Refusal}
use Rattle.document.specs.Refusals.{overflow_full, pages_full, rows_full, not_prepared}
use Rattle.document.specs.Results.{Outcome}

-- slices of zeros that are just long enough
abbrev pub tiny : Sizes
tiny = sizes_of 9 4 2 1 2 1

abbrev pub blank_mem : Mem
blank_mem = mem (replicate 8 0) (replicate 8 0) (replicate 1 0) (replicate 26 0)

-- ---- calls one after the other: by document 01's words, and by the models of the contracts

abbrev pub stated_by : State → List Call → State
stated_by q [] = q
stated_by q (c ∷ cs) = stated_by (after q c) cs

abbrev pub answers : State → List Call → List Said
answers q [] = []
answers q (c ∷ cs) = answer q c ∷ answers (after q c) cs

abbrev pub reached : Mem → List Call → Mem
reached x [] = x
reached x (c ∷ cs) = reached (ran_by x c).after cs

abbrev pub heard : Mem → List Call → List Said
heard x [] = []
heard x (c ∷ cs) = (ran_by x c).answer ∷ heard (ran_by x c).after cs

-- a fresh set
abbrev pub start : Mem
start = (set_up_by tiny blank_mem).after

-- ---- how a set came about, and what it then is: by document 01's words, and by the models

infixl 5 ◌then◌
pub data Past : Type 0 where
  -- a fresh set
  fresh : Past
  -- and then calls
  ◌then◌ : Past → List Call → Past
  -- the union, into one set, of another: the set that took it in, and the set that was taken in
  took : Past → Past → Join → Past
  gave : Past → Past → Join → Past

abbrev pub stated : Past → State
stated fresh = empty tiny
stated (p then cs) = stated_by (stated p) cs
stated (took p q j) = united (stated p) (stated q) (union_answer (stated p) (stated q) j)
stated (gave p q j) = leftover (stated q) j (union_answer (stated p) (stated q) j)

abbrev pub memory : Past → Mem
memory fresh = start
memory (p then cs) = reached (memory p) cs
memory (took p q j) = (union_by (memory p) (memory q) j).here
memory (gave p q j) = (union_by (memory p) (memory q) j).there

-- a row: a set, and then
pub data Case : Type 0 where
  -- what further calls answer
  calls : Past → List Call → List Said → Case
  -- what its union with another answers
  unites : Past → Past → Join → Outcome → Case
  -- what is read
  asks : Past → Ask → Said → Case
  -- the kind of a chunk
  kind : Past → ℕ → Kind → Case
  -- the owner of a row or page: a chunk id plus 1, 0 where it is free
  row : Past → ℕ → ℕ → Case
  page : Past → ℕ → ℕ → Case
  -- all of its memory
  whole : Past → Mem → Case
  -- a case about a plain set
  plain : PlainCase → Case

-- by the plain set, and by every answer that the contracts allow
abbrev pub Says : Case → Type 0
Says (calls p cs rs) = (answers (stated p) cs ≡ rs) × (heard (memory p) cs ≡ rs)
Says (unites p q j a) = (union_answer (stated p) (stated q) j ≡ a) × ((union_by (memory p) (memory q) j).answer ≡ a)
Says (asks p k r) = (reply (stated p) k ≡ r) × ((a : Said) → Answers (memory p) k a → a ≡ r)
Says (kind p c k) = ((stated p).map c ≡ k) × (kinds (memory p) c ≡ k)
Says (row p r o) = row_owner tiny (memory p).table r ≡ o
Says (page p n o) = page_owner tiny (memory p).table n ≡ o
Says (whole p x) = (stated p ≡ state_of x) × (memory p ≡ x)
Says (plain c) = PlainSays c

abbrev pub AllSay : List Case → Type 0
AllSay [] = Unit
AllSay (c ∷ cs) = Says c × AllSay cs

-- ---- the table

abbrev inserts : List ℕ → List Call
inserts [] = []
inserts (n ∷ ns) = insert (pos n) ∷ inserts ns

-- a fresh set with these ids inserted
abbrev holding : List ℕ → Past
holding ns = fresh then inserts ns

abbrev minus_one : ℤ
minus_one = negsuc 0

abbrev yes : Said
yes = whether (Ok true)

abbrev no : Said
no = whether (Ok false)

abbrev refused : Refusal → Said
refused n = whether (Err n)

abbrev case_a : List Call
case_a = insert minus_one ∷ inserts (0 ∷ 1 ∷ 2 ∷ 3 ∷ 3 ∷ 4 ∷ [])

abbrev two_full : Past
two_full = holding (0 ∷ 1 ∷ 2 ∷ 3 ∷ 512 ∷ 513 ∷ 514 ∷ 515 ∷ [])

abbrev ranked_four : Past
ranked_four = holding (0 ∷ 5 ∷ 7 ∷ 9 ∷ []) then (rank_up ∷ [])

abbrev zero_alone : Past
zero_alone = holding (0 ∷ [])

abbrev ready : Past
ready = fresh then (prepare (pos 511) ∷ [])

-- the members of a set of at most 64: iteration from 0 on
abbrev all_members : Ask
all_members = iterate (pos 0)

abbrev exactly : List ℕ → Said
exactly ns = listed (record { ids = fill iteration.blank 0 ns; count = length ns; end = true; next = pos 0; refusal = 0 })

abbrev three_with : List ℕ → Past
three_with ns = took (holding (0 ∷ 1 ∷ 2 ∷ [])) (holding ns) merge_from

abbrev destination : Past
destination = holding (0 ∷ 1 ∷ 2 ∷ 3 ∷ 512 ∷ [])

abbrev source : Past
source = holding (4 ∷ 1024 ∷ [])

-- the destination's memory after case l: 0 to 4 in page 0, 1024 in row 0, 512 in row 1; header (row 0 was freed and taken), chunks 0, 1, 2, owners
abbrev memory_l : Mem
memory_l =
    mem (31 ∷ replicate 7 0) (replicate 8 0) (replicate 1 0)
    ((9 ∷ 4 ∷ 2 ∷ 1 ∷ 2 ∷ 1 ∷ 0 ∷ 1 ∷ 0 ∷ 1 ∷ 1 ∷ replicate 5 0)
    ++ (encoded (Dense 0) ∷ 0 ∷ encoded (Sparse 1 1) ∷ 0 ∷ 2 ∷ encoded (Sparse 0 1) ∷ 0 ∷ [])
    ++ (3 ∷ 2 ∷ 1 ∷ []))

-- on memory
abbrev pub memory_rows : List Case
memory_rows =
    -- a
    calls fresh case_a (no ∷ yes ∷ yes ∷ yes ∷ yes ∷ no ∷ yes ∷ [])
    ∷ kind (holding (0 ∷ 1 ∷ 2 ∷ 3 ∷ 3 ∷ [])) 0 sparse
    ∷ kind (fresh then case_a) 0 dense
    -- b
    ∷ calls two_full (inserts (516 ∷ 4 ∷ 1024 ∷ [])) (yes ∷ refused pages_full ∷ yes ∷ [])
    ∷ row two_full 1 2
    ∷ page (two_full then inserts (516 ∷ [])) 0 2
    ∷ row (two_full then inserts (516 ∷ [])) 1 0
    ∷ row (two_full then inserts (516 ∷ 4 ∷ 1024 ∷ [])) 1 3
    -- c
    ∷ calls fresh (inserts (0 ∷ 512 ∷ 1024 ∷ [])) (yes ∷ yes ∷ refused rows_full ∷ [])
    -- d
    ∷ calls (fresh then case_a) (inserts (512 ∷ 1024 ∷ 1536 ∷ [])) (yes ∷ yes ∷ refused overflow_full ∷ [])
    ∷ row (fresh then case_a then inserts (512 ∷ 1024 ∷ [])) 0 2
    ∷ row (fresh then case_a then inserts (512 ∷ 1024 ∷ [])) 1 3
    -- e
    ∷ asks ranked_four (rank_of (negsuc 2)) (many (Ok 0))
    ∷ asks ranked_four (rank_of (pos 0)) (many (Ok 0))
    ∷ asks ranked_four (rank_of (pos 1)) (many (Ok 1))
    ∷ asks ranked_four (rank_of (pos 9)) (many (Ok 3))
    ∷ asks ranked_four (rank_of (pos 10)) (many (Ok 4))
    ∷ asks ranked_four (rank_of (pos (2 ^ 63 - 1))) (many (Ok 4))
    ∷ asks ranked_four (rank_if_set (pos 7)) (maybe (Ok (Some 2)))
    ∷ asks ranked_four (rank_if_set (pos 8)) (maybe (Ok None))
    -- i, and of a ranked set
    ∷ asks zero_alone (range_test (negsuc (2 ^ 63 - 1)) (pos (2 ^ 63 - 1))) yes
    ∷ asks zero_alone (range_test (negsuc 4) (pos 0)) yes
    ∷ asks zero_alone (range_test (pos 1) (pos 0)) no
    ∷ asks zero_alone (range_test (negsuc 4) minus_one) no
    ∷ asks ranked_four (range_test (pos 1) (pos 4)) no
    ∷ asks ranked_four (range_test (pos 1) (pos 5)) yes
    -- j
    ∷ asks ready has_any yes
    ∷ asks ready len (many (Ok 0))
    ∷ calls ready (prepared (pos 3) ∷ prepared (pos 3) ∷ prepared (pos 512) ∷ prepared minus_one ∷ []) (yes ∷ no ∷ refused not_prepared ∷ refused not_prepared ∷ [])
    ∷ calls fresh (prepare (pos 512) ∷ []) (that (Err pages_full) ∷ [])
    ∷ calls fresh (prepare (pos 1536) ∷ []) (that (Err overflow_full) ∷ [])
    -- k
    ∷ kind (three_with (2 ∷ 3 ∷ [])) 0 sparse
    ∷ asks (three_with (2 ∷ 3 ∷ [])) all_members (exactly (0 ∷ 1 ∷ 2 ∷ 3 ∷ []))
    ∷ kind (three_with (3 ∷ 4 ∷ [])) 0 dense
    ∷ asks (three_with (3 ∷ 4 ∷ [])) all_members (exactly (0 ∷ 1 ∷ 2 ∷ 3 ∷ 4 ∷ []))
    -- l: chunk 0 becomes dense, chunk 2 takes the row that it had; the source stays
    ∷ unites destination source merge_from (Ok tt)
    ∷ asks (took destination source merge_from) all_members (exactly (0 ∷ 1 ∷ 2 ∷ 3 ∷ 4 ∷ 512 ∷ 1024 ∷ []))
    ∷ asks (took destination source merge_from) chunk_count (many (Ok 3))
    ∷ kind (took destination source merge_from) 0 dense
    ∷ kind (took destination source merge_from) 1 sparse
    ∷ kind (took destination source merge_from) 2 sparse
    ∷ row destination 0 1
    ∷ row (took destination source merge_from) 0 3
    ∷ whole (took destination source merge_from) memory_l
    ∷ whole (gave destination source merge_from) (memory source)
    -- by `merge`: the source as set_up left it
    ∷ unites destination source merge (Ok tt)
    ∷ whole (took destination source merge) memory_l
    ∷ whole (gave destination source merge) start
    ∷ []

-- e to i of plain sets, the plans among them
abbrev pub plain_rows : List PlainCase → List Case
plain_rows [] = []
plain_rows (c ∷ cs) = plain c ∷ plain_rows cs

abbrev pub table : List Case
table = memory_rows ++ plain_rows plain_table
