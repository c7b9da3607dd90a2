mod Replies
