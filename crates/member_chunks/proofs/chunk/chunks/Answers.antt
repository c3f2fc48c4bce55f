use Rattle.std.proofs.Common.{ℕ, List, [], ◌∷◌, ◌++◌, map, sym, ap, ◌∙◌, arith}
use Rattle.std.specs.List.{range_with_len}
use Rattle.std.proofs.lemmas.List.FromFn.{map-range_with_len_more}
use Rattle.dispatch_types.specs.declared.members.MembersChunk.{MembersChunk}
use Rattle.dispatch_types.specs.declared.dispatch.Dispatch.{Dispatch}
use Rattle.dispatch_types.specs.declared.dispatch.Dispatch.TheVariants.{GuildMembersChunk}
use Rattle.member_chunks.specs.Answered.{chunk}
use Rattle.member_chunks.proofs.chunk.chunks.Goals as goal

pub loop-index-preserved : goal.loop-index-preserved
loop-index-preserved c =
    let told = λ (index : ℕ). GuildMembersChunk (chunk c.args.guild.now c.args.ask.now (map (λ member. member.now) c.args.members.now) index) in
    let so_far : List Dispatch = map told (range_with_len 0 c.loop-index.index) in
    let step = map-range_with_len_more told 0 c.loop-index.index c.loop-index.index (omega arith) in
    c.in_ok-push.ensures.items
    ∙ (ap (λ (ds : List Dispatch). ds ++ GuildMembersChunk c.in_ok-chunk.chunk ∷ []) c.loop-index.invariant
    ∙ (ap (λ (x : MembersChunk). so_far ++ GuildMembersChunk x ∷ []) c.in_ok-chunk.ensures
    ∙ sym step))
