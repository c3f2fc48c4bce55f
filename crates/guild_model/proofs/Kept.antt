-- What holds between the lists of a record still holds where one list of it has changed.
use Rattle.std.proofs.Common.{◌≡◌, ℕ, Bool, true, false, ◌||◌, List, Some, sym, ap, ◌∙◌}
use Rattle.std.specs.Prelude.{◌==◌, All}
use Rattle.std.proofs.lemmas.List.Elements.{All-weaker}
use Rattle.collections.specs.ById.{find_id, has_id, put_id}
use Rattle.collections.proofs.Has.{has-kept}
use Rattle.guild_model.specs.declared.role.Role.{Role}
use Rattle.guild_model.specs.declared.member.Member.{Member}
use Rattle.guild_model.specs.declared.channel.Channel.{Channel}
use Rattle.guild_model.specs.declared.voice.Voice.{Voice}
use Rattle.guild_model.specs.declared.presence.Presence.{Presence}
use Rattle.guild_model.specs.declared.message.MessageHead.{MessageHead}
use Rattle.guild_model.specs.Record.{Record, own_id, role_id, member_id, overwrite_id, channel_id, thread_id, voice_id, presence_id}
use Rattle.guild_model.specs.Consistent.{IsConsistent, is_parent, is_channel_or_thread}

module _ (g : Record) (is_open : g.opened ≡ true) (h : IsConsistent g) where
  pub renamed : (name : List ℕ) → IsConsistent (record g { name = name })
  renamed name = record {
    empty = λ closed. absurd (cc (is_open, closed));
    everyone = h.everyone;
    owner = h.owner;
    held = h.held;
    overwritten = h.overwritten;
    voices = h.voices;
    presences = h.presences;
    parents = h.parents;
    joined = h.joined;
    apart = h.apart;
    message_channels = h.message_channels;
  }

  pub in_outage : (outage : Bool) → IsConsistent (record g { outage = outage })
  in_outage outage = record {
    empty = λ closed. absurd (cc (is_open, closed));
    everyone = h.everyone;
    owner = h.owner;
    held = h.held;
    overwritten = h.overwritten;
    voices = h.voices;
    presences = h.presences;
    parents = h.parents;
    joined = h.joined;
    apart = h.apart;
    message_channels = h.message_channels;
  }

  pub withheld : (private : Bool) → IsConsistent (record g { private = private })
  withheld private = record {
    empty = λ closed. absurd (cc (is_open, closed));
    everyone = h.everyone;
    owner = h.owner;
    held = h.held;
    overwritten = h.overwritten;
    voices = h.voices;
    presences = h.presences;
    parents = h.parents;
    joined = h.joined;
    apart = h.apart;
    message_channels = h.message_channels;
  }

  pub owned : (user : ℕ) → has_id member_id user g.members ≡ true → IsConsistent (record g { owner = user })
  owned user there = record {
    empty = λ closed. absurd (cc (is_open, closed));
    everyone = h.everyone;
    owner = λ _. there;
    held = h.held;
    overwritten = h.overwritten;
    voices = h.voices;
    presences = h.presences;
    parents = h.parents;
    joined = h.joined;
    apart = h.apart;
    message_channels = h.message_channels;
  }

  -- a role comes, or is another
  pub role_set : (r : Role) → IsConsistent (record g { roles = put_id role_id r g.roles })
  role_set r = record {
    empty = λ closed. absurd (cc (is_open, closed));
    everyone = λ _. has-kept role_id r g.id g.roles (h.everyone is_open);
    owner = h.owner;
    held = λ user role m found holds. let old = h.held user role m found holds in (has-kept role_id r role g.roles old.0, old.1);
    overwritten = λ channel role c found there. has-kept role_id r role g.roles (h.overwritten channel role c found there);
    voices = h.voices;
    presences = h.presences;
    parents = h.parents;
    joined = h.joined;
    apart = h.apart;
    message_channels = h.message_channels;
  }

  -- the members have changed, but not who is one of them
  pub members_changed : (ms : List Member) → ((user : ℕ) → has_id member_id user g.members ≡ true → has_id member_id user ms ≡ true)
      → ((user role : ℕ) (m : Member) → find_id member_id user ms ≡ Some m → has_id own_id role m.roles ≡ true → (has_id role_id role g.roles ≡ true) × ((role == g.id) ≡ false))
      → IsConsistent (record g { members = ms })
  members_changed ms same held = record {
    empty = λ closed. absurd (cc (is_open, closed));
    everyone = h.everyone;
    owner = λ _. same g.owner (h.owner is_open);
    held = held;
    overwritten = h.overwritten;
    voices = λ user v found. let old = h.voices user v found in (same user old.0, old.1);
    presences = λ user there. same user (h.presences user there);
    parents = h.parents;
    joined = λ thread user t found there. same user (h.joined thread user t found there);
    apart = h.apart;
    message_channels = h.message_channels;
  }

  -- the channels have changed, but not where threads, voice states and messages stand
  pub channels_changed : (cs : List Channel) → ((id : ℕ) → has_id channel_id id cs ≡ has_id channel_id id g.channels)
      → ((id : ℕ) → is_parent (find_id channel_id id cs) ≡ is_parent (find_id channel_id id g.channels))
      → ((channel role : ℕ) (c : Channel) → find_id channel_id channel cs ≡ Some c → has_id overwrite_id role c.overwrites.roles ≡ true → has_id role_id role g.roles ≡ true)
      → IsConsistent (record g { channels = cs })
  channels_changed cs same kinds overwritten = record {
    empty = λ closed. absurd (cc (is_open, closed));
    everyone = h.everyone;
    owner = h.owner;
    held = h.held;
    overwritten = overwritten;
    voices = λ user v found. let old = h.voices user v found in (old.0, same v.channel ∙ old.1);
    presences = h.presences;
    parents = λ thread t found. kinds t.parent ∙ h.parents thread t found;
    joined = h.joined;
    apart = λ id there. h.apart id (sym (same id) ∙ there);
    message_channels = All-weaker (λ (m : MessageHead). is_channel_or_thread g m.channel ≡ true) (λ (m : MessageHead). is_channel_or_thread (record g { channels = cs }) m.channel ≡ true)
        (λ m there. ap (λ b. b || has_id thread_id m.channel g.threads) (same m.channel) ∙ there) g.messages h.message_channels;
  }

  -- the voice states have changed: each is of a member, in a channel
  pub voices_changed : (vs : List Voice) → ((user : ℕ) (v : Voice) → find_id voice_id user vs ≡ Some v → (has_id member_id user g.members ≡ true) × (has_id channel_id v.channel g.channels ≡ true))
      → IsConsistent (record g { voices = vs })
  voices_changed vs there = record {
    empty = λ closed. absurd (cc (is_open, closed));
    everyone = h.everyone;
    owner = h.owner;
    held = h.held;
    overwritten = h.overwritten;
    voices = there;
    presences = h.presences;
    parents = h.parents;
    joined = h.joined;
    apart = h.apart;
    message_channels = h.message_channels;
  }

  -- the presences have changed: each is of a member
  pub presences_changed : (ps : List Presence) → ((user : ℕ) → has_id presence_id user ps ≡ true → has_id member_id user g.members ≡ true)
      → IsConsistent (record g { presences = ps })
  presences_changed ps there = record {
    empty = λ closed. absurd (cc (is_open, closed));
    everyone = h.everyone;
    owner = h.owner;
    held = h.held;
    overwritten = h.overwritten;
    voices = h.voices;
    presences = there;
    parents = h.parents;
    joined = h.joined;
    apart = h.apart;
    message_channels = h.message_channels;
  }

  -- the messages have changed: each stands in a channel or a thread
  pub messages_changed : (ms : List MessageHead) → All (λ (m : MessageHead). is_channel_or_thread g m.channel ≡ true) ms
      → IsConsistent (record g { messages = ms })
  messages_changed ms there = record {
    empty = λ closed. absurd (cc (is_open, closed));
    everyone = h.everyone;
    owner = h.owner;
    held = h.held;
    overwritten = h.overwritten;
    voices = h.voices;
    presences = h.presences;
    parents = h.parents;
    joined = h.joined;
    apart = h.apart;
    message_channels = there;
  }
