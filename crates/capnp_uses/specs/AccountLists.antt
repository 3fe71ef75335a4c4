-- Lists of accounts that are built one by one (src/account_list.rt).
use Rattle.std.specs.Prelude.{◌≡◌, ◌⊎◌, ℕ, ◌+◌, ◌*◌, ◌/◌, ◌^◌, ◌<◌, ◌≤◌, List, [], ◌∷◌, map, sum_by, length, replicate, Any, Option, None, IsSomeAnd}
use Rattle.capnp_frame.specs.declared.error.ErrorKind.{ErrorKind}
use Rattle.capnp_frame.specs.declared.error.ErrorKind.TheVariants.{OutOfMemory, AllocationTooLarge, MessageTooLarge}
use Rattle.capnp_wire.specs.Prelude.{structs, Trees, none, tree, IsTextTree, LongText}
use Rattle.capnp_orphans.specs.Holds.{AreTrees, ManyStructs}
use Rattle.capnp_orphans.specs.Segments.{Segment, IsPastMost}
use Rattle.capnp_uses.specs.declared.account_list.NewAccount.{NewAccount}

-- the tree of a name, a text
abbrev pub IsName : NewAccount → Trees → Type 0
IsName account trees = IsTextTree account.name.now trees

-- The tree of a list of accounts: a struct for each, of its number, which points to its name.
abbrev pub IsAccountList : List NewAccount → Trees → Type 0
IsAccountList accounts trees = (names : Trees) × AreTrees IsName accounts names
    × (trees ≡ tree (structs 1 1 (map (λ account. account.id ∷ []) accounts)) names none)

-- the words of a name: its bytes, and a zero byte
abbrev pub name_words : NewAccount → ℕ
name_words account = length account.name.now / 8 + 1

-- the words of a list: of its names, its tag, and two for each account
abbrev pub list_words : List NewAccount → ℕ
list_words accounts = sum_by name_words accounts + 1 + 2 * length accounts

-- a segment has no room for this many more words
abbrev pub IsFullFor : ℕ → Segment → Type 0
IsFullFor words segment = (2 ^ 29 ≤ length segment.bytes / 8 + words) ⊎ IsPastMost words segment

-- the segment of a new message on the heap: the word of its root, which is null
abbrev pub new_segment : Segment
new_segment = record { bytes = replicate 8 0; most = None; capacity = 0 }

-- The error has the words of what has no room: of a name, or of the structs and their tag.
abbrev pub ObjectTooLarge : List NewAccount → ErrorKind → Type 0
ObjectTooLarge accounts kind = Any (λ account. kind ≡ AllocationTooLarge (name_words account)) accounts
    ⊎ (kind ≡ AllocationTooLarge (1 + 2 * length accounts))

-- No list of these accounts is added: the call is out of memory, a name is too long for a text, or they are too
-- many for a list. Or with the words of the list the segment would have 2 ^ 29, or a region more than it has
-- room for.
abbrev pub AccountsError : List NewAccount → Segment → ErrorKind → Type 0
AccountsError accounts segment kind = (kind ≡ OutOfMemory)
    ⊎ Any (λ account. LongText account.name.now kind) accounts
    ⊎ ManyStructs 1 1 (length accounts) kind
    ⊎ (IsFullFor (list_words accounts) segment × ObjectTooLarge accounts kind)

-- The message of such a list has more words than the limit, and the error carries their number.
abbrev pub AccountsLimitError : List NewAccount → Option ℕ → ErrorKind → Type 0
AccountsLimitError accounts limit kind = IsSomeAnd limit (λ most. most < 1 + list_words accounts) × (kind ≡ MessageTooLarge (1 + list_words accounts))
