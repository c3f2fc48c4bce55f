-- The kept messages of a guild: the latest 16,384, in order of arrival.
use Rattle.std.specs.Prelude.{◌≡◌, ℕ, ◌≤◌, ◌==◌, nat_lt, nat_eq, length, drop, List, [], ◌∷◌, ◌++◌, Bool, false, not, filter, Option, Some, None, if◌then◌else◌}
use Rattle.std.specs.Map.{lookup}
use Rattle.lru.specs.LruCache.{LruCache}
use Rattle.collections.specs.ById.{find_id, has_id, without_id, changed_id}
use Rattle.guild_model.specs.declared.message.MessageHead.{MessageHead}
use Rattle.guild_model.specs.ChannelIndex.{is_indexed}

abbrev pub head_id : MessageHead → ℕ
head_id h = h.id

-- the kept message of an id
abbrev pub find_head : ℕ → List MessageHead → Option MessageHead
find_head id heads = find_id head_id id heads

abbrev pub has_head : ℕ → List MessageHead → Bool
has_head id heads = has_id head_id id heads

-- a new message comes last; the oldest goes where there were 16,384
abbrev pub arrived : MessageHead → List MessageHead → List MessageHead
arrived h heads = (if nat_lt (length heads) 16384 then heads else drop 1 heads) ++ h ∷ []

abbrev pub without_head : ℕ → List MessageHead → List MessageHead
without_head id heads = without_id head_id id heads

abbrev pub with_mentions : List ℕ → MessageHead → MessageHead
with_mentions mentions h = record h { mentions = mentions }

-- the message of an id mentions others
abbrev pub mentioning : ℕ → List ℕ → List MessageHead → List MessageHead
mentioning id mentions heads = changed_id head_id id (with_mentions mentions) heads

-- the messages that do not stand in a channel
abbrev pub without_channel : ℕ → List MessageHead → List MessageHead
without_channel channel heads = filter (λ h. not (h.channel == channel)) heads

-- no id stands twice
abbrev pub AreApart : List MessageHead → Type 0
AreApart [] = Unit {0}
AreApart (h ∷ heads) = (has_head h.id heads ≡ false) × AreApart heads

pub record AreRecent (heads : List MessageHead) : Type 0 where
  pub apart : AreApart heads
  pub few : length heads ≤ 16384

-- ---- as they are kept: under their ids, the newest first, and by their channels

abbrev pub arrivals : List (ℕ × MessageHead) → List MessageHead
arrivals [] = []
arrivals (e ∷ es) = arrivals es ++ e.1 ∷ []

-- each stands under its own id, and under no other
abbrev pub IsIndex : List (ℕ × MessageHead) → Type 0
IsIndex [] = Unit {0}
IsIndex (e ∷ es) = (e.1.id ≡ e.0) × (lookup (nat_eq e.0) es ≡ None) × IsIndex es

pub record IsKept (c : LruCache ℕ MessageHead) : Type 0 where
  pub index : IsIndex c.entries
  pub few : length c.entries ≤ 16384
  pub room : c.cap ≡ 16384

abbrev pub is_head_in : ℕ → Option MessageHead → Bool
is_head_in channel None = false
is_head_in channel (Some h) = h.channel == channel

-- a message is said to stand in a channel exactly where it is kept and does
abbrev pub AreIndexed : List (ℕ × ℕ) → List (ℕ × MessageHead) → Type 0
AreIndexed ps es = (channel id : ℕ) → is_indexed ps channel id ≡ is_head_in channel (lookup (nat_eq id) es)

-- there is none before the first message comes
abbrev pub heads_of : Option (LruCache ℕ MessageHead) → List MessageHead
heads_of None = []
heads_of (Some c) = arrivals c.entries

abbrev pub AreKept : Option (LruCache ℕ MessageHead) → List (ℕ × ℕ) → Type 0
AreKept None ps = AreIndexed ps []
AreKept (Some c) ps = IsKept c × AreIndexed ps c.entries
