use Rattle.html_pages.proofs.PostedTags.{document_posts_its_content}
use Rattle.html_pages.proofs.law.documents_post_their_content.Goals as goal

pub returns : goal.returns
returns c = document_posts_its_content
