use Rattle.am_instance.proofs.instance.Instance.answer.Goals as goal

pub returns-in-List : goal.returns-in-List
returns-in-List c = rw c.in-List.is c.list.ensures

pub returns-in-Get : goal.returns-in-Get
returns-in-Get c = rw c.in-Get.is c.get.ensures

pub returns-in-Post : goal.returns-in-Post
returns-in-Post c = rw c.in-Post.is c.post.ensures

pub returns-in-Delete : goal.returns-in-Delete
returns-in-Delete c = rw c.in-Delete.is c.delete.ensures
